-- The bounds hold every number far below 2^64.
use Rattle.bounds.proofs.numbers_are_small.Goals as goal
use Rattle.bounds.proofs.Numbers.{sound_is_small}

pub returns : goal.returns
returns c = sound_is_small
