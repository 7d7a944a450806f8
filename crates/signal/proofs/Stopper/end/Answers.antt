-- A row that is struck opens nothing, so completion stays.
use Rattle.std.proofs.Common.{rules}
use Rattle.roster.specs.Model.{view as roll_of}
use Rattle.signal.specs.Model.{view, ended}
use Rattle.signal.proofs.Completes.{settles, keeps_ended, complete_ended, settled_anew}
use Rattle.signal.proofs.Stopper.end.Goals as goal

pub returns : goal.returns
returns c = settles _ (keeps_ended c.args.task) _ _ (search rules) (search rules) (search rules)

pub invariant_of-self : goal.invariant_of-self
invariant_of-self c =
    let was = view c.args.self.now in
    record { settled = settled_anew was (ended c.args.task was).roll (roll_of c.strike.new.self) c.strike.ensures _ c.args.self.now.settled _ (complete_ended c.args.task was) c.settle.ensures.completion }
