use Rattle.deterministic.proofs.facts.calls_are_moves.Goals as goal
use Rattle.deterministic.proofs.Doings.{apply_moves}

pub returns : goal.returns
returns c = apply_moves
