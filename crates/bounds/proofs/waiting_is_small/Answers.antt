-- Calm holds the waiting ids below their places.
use Rattle.bounds.proofs.waiting_is_small.Goals as goal
use Rattle.bounds.proofs.Numbers.{calm_is_small}

pub returns : goal.returns
returns c = calm_is_small
