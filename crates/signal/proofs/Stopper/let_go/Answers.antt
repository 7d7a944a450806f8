-- Letting go opens nothing, so completion stays.
use Rattle.std.proofs.Common.{rules}
use Rattle.roster.specs.Model.{view as roll_of}
use Rattle.signal.specs.Model.{view, let_go}
use Rattle.signal.proofs.Completes.{settles, keeps_let_go, complete_let_go, settled_anew}
use Rattle.signal.proofs.Stopper.let_go.Goals as goal

pub returns : goal.returns
returns c = settles _ (keeps_let_go c.args.task) _ _ (search rules) (search rules) (search rules)

pub invariant_of-self : goal.invariant_of-self
invariant_of-self c =
    let was = view c.args.self.now in
    record { settled = settled_anew was (let_go c.args.task was).roll (roll_of c.turn.new.self) (search rules) _ c.args.self.now.settled _ (complete_let_go c.args.task was) c.settle.ensures.completion }
