use Rattle.std.proofs.Common.{false, refl, ap, ◌∙◌}
use Rattle.nodes.specs.Node.{taken}
use Rattle.lineage.specs.Family.{changed}
use Rattle.lineage.proofs.Newborn.{same_family}
use Rattle.supervision.specs.Calls.{view}
use Rattle.supervision.proofs.Whole.{facts_of, whole_of, whole_seated, open_lives, flag_at}
use Rattle.supervision.proofs.Ages.{later_of, later_seated}
use Rattle.supervision.proofs.Tree.seat.Goals as goal

pub invariant_of-self : goal.invariant_of-self
invariant_of-self c =
    let same = same_family c.seat.ensures.nodes refl c.seat.ensures.next ∙ ap (changed (taken c.args.task) c.args.context) c.bear-serial.ensures.after in
    let node = open_lives c.args.holder c.args.context (view c.args.self.now) c.requires.open in
    facts_of _ _ same
    (whole_seated c.args.context c.args.task (view c.args.self.now) node.0 node.1 (flag_at c.args.context (view c.args.self.now) node.0 false node.1 c.requires.living) c.requires.new (whole_of c.args.self.now))

pub returns-clause-keeps : goal.returns-clause-keeps
returns-clause-keeps c =
    let same = same_family c.seat.ensures.nodes refl c.seat.ensures.next ∙ ap (changed (taken c.args.task) c.args.context) c.bear-serial.ensures.after in
    record { marks = refl; later = later_of same (later_seated c.args.context c.args.task (view c.args.self.now)) }
