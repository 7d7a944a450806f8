-- A signal that is taken leaves completion as it was.
use Rattle.std.proofs.Common.{rules}
use Rattle.roster.specs.Model.{view as roll_of}
use Rattle.signal.specs.Model.{view, given}
use Rattle.signal.proofs.Completes.{makes, keeps_given, complete_given, settled_still}
use Rattle.signal.proofs.Stopper.stopped.Goals as goal

pub returns : goal.returns
returns c = makes _ (keeps_given c.args.task) _ _ (search rules) (search rules)

pub invariant_of-self : goal.invariant_of-self
invariant_of-self c =
    let was = view c.args.self.now in
    record { settled = settled_still was (given c.args.task was).roll (roll_of c.turn.new.self) (search rules) _ c.args.self.now.settled (complete_given c.args.task was) }
