use Rattle.std.proofs.Common.{refl}
use Rattle.lineage.proofs.Burials.{settled_from}
use Rattle.supervision.specs.Calls.{view}
use Rattle.supervision.proofs.Whole.{facts_of, whole_of, whole_closed_all}
use Rattle.supervision.proofs.Ages.{later_of, later_closed_all}
use Rattle.supervision.proofs.Tree.close_all.Goals as goal

pub invariant_of-self : goal.invariant_of-self
invariant_of-self c = facts_of _ _ (settled_from _ _ _ _ _ c.settle.ensures c.release_all.ensures.nodes c.release_all.ensures.next) (whole_closed_all _ (view c.args.self.now) (whole_of c.args.self.now))

pub returns-clause-keeps : goal.returns-clause-keeps
returns-clause-keeps c = record { marks = refl; later = later_of (settled_from _ _ _ _ _ c.settle.ensures c.release_all.ensures.nodes c.release_all.ensures.next) (later_closed_all _ (view c.args.self.now)) }
