use Rattle.lineage.specs.Family.{family_of}
use Rattle.supervision.specs.Calls.{view}
use Rattle.supervision.proofs.Whole.{facts_of, whole_of}
use Rattle.supervision.proofs.Counting.{cascade_law_of, whole_cascaded}
use Rattle.supervision.proofs.Ages.{later_of, later_cascaded}
use Rattle.supervision.proofs.Tree.cascade.Goals as goal

pub invariant_of-self : goal.invariant_of-self
invariant_of-self c = facts_of (family_of c.abort.new.lineage) _ c.abort.ensures.after (whole_cascaded _ (view c.args.self.now) (whole_of c.args.self.now))

pub returns-clause-law : goal.returns-clause-law
returns-clause-law c = cascade_law_of c.args.node (view c.args.self.now) _ _ c.abort.ensures.after c.abort.ensures.marks (whole_of c.args.self.now)

pub returns-clause-later : goal.returns-clause-later
returns-clause-later c = later_of c.abort.ensures.after (later_cascaded _ (view c.args.self.now))
