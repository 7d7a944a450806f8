-- Call by call.
use Rattle.bounds.proofs.turns_keep_the_bounds.Goals as goal
use Rattle.bounds.proofs.Rounds.{turn_keeps}

pub returns : goal.returns
returns c = turn_keeps
