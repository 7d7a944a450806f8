-- Asking opens and closes nothing.
use Rattle.std.proofs.Common.{rules}
use Rattle.roster.specs.Row.{asks}
use Rattle.roster.specs.Model.{turned}
use Rattle.roster.specs.Model.{view as roll_of}
use Rattle.signal.specs.Model.{view}
use Rattle.signal.proofs.Completes.{complete_asking, settled_still}
use Rattle.signal.proofs.Stopper.completed.Goals as goal

pub invariant_of-self : goal.invariant_of-self
invariant_of-self c =
    let was = view c.args.self.now in
    record { settled = settled_still was (turned asks c.args.task was.roll) (roll_of c.turn.new.self) (search rules) _ c.args.self.now.settled (complete_asking c.args.task was) }
