use Rattle.std.proofs.Common.{refl}
use Rattle.lineage.proofs.Burials.{settled_from}
use Rattle.supervision.specs.Calls.{view}
use Rattle.supervision.proofs.Whole.{facts_of, whole_of, whole_closed}
use Rattle.supervision.proofs.Ages.{later_of, later_closed}
use Rattle.supervision.proofs.Tree.spend.Goals as goal

pub invariant_of-self : goal.invariant_of-self
invariant_of-self c = facts_of _ _ (settled_from _ _ _ _ _ c.settle.ensures c.release.ensures.nodes c.release.ensures.next) (whole_closed _ (view c.args.self.now) (whole_of c.args.self.now))

pub returns-clause-keeps : goal.returns-clause-keeps
returns-clause-keeps c = record { marks = refl; later = later_of (settled_from _ _ _ _ _ c.settle.ensures c.release.ensures.nodes c.release.ensures.next) (later_closed _ (view c.args.self.now)) }
