use Rattle.std.proofs.Common.{true, false, sym, refl}
use Rattle.lineage.proofs.Newborn.{same_family}
use Rattle.supervision.specs.Calls.{view}
use Rattle.supervision.proofs.Whole.{facts_of, whole_of, whole_alone, whole_born, open_lives, flag_at, granted_open}
use Rattle.supervision.proofs.Ages.{later_of, later_granted, later_orphaned, later_born}
use Rattle.supervision.proofs.Tree.child.Goals as goal

pub invariant_of-self : goal.invariant_of-self
invariant_of-self c = facts_of _ _ (same_family c.add-serial.ensures.nodes refl c.add-serial.ensures.next) (whole_alone true c.args.task (view c.args.self.now) (whole_of c.args.self.now))

pub returns-then-is_aborted-clause-keeps : goal.returns-then-is_aborted-clause-keeps
returns-then-is_aborted-clause-keeps c = record { marks = refl; later = later_granted _ _ _ c.in_ok-check_child.ensures (later_of (same_family c.add-serial.ensures.nodes refl c.add-serial.ensures.next) (later_orphaned c.args.task (view c.args.self.now))) }

pub invariant_of-self-2 : goal.invariant_of-self-2
invariant_of-self-2 c =
    let node = open_lives c.args.task c.args.context (view c.args.self.now) (granted_open c.args.task c.args.context (view c.args.self.now) c.in_ok-check_child.ensures) in
    let quiet = flag_at c.args.context (view c.args.self.now) node.0 false node.1 (sym c.if-is_aborted.ensures.answer) in
    facts_of _ _ c.bear-serial.ensures.after (whole_born c.args.context c.args.task (view c.args.self.now) node.0 node.1 quiet (whole_of c.args.self.now))

pub returns-clause-keeps : goal.returns-clause-keeps
returns-clause-keeps c = record { marks = refl; later = later_granted _ _ _ c.in_ok-check_child.ensures (later_of c.bear-serial.ensures.after (later_born c.args.context c.args.task (view c.args.self.now))) }
