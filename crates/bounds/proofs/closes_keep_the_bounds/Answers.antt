-- A close writes a tick, a jump if there is one, and a ring for each alarm that is due.
use Rattle.bounds.proofs.closes_keep_the_bounds.Goals as goal
use Rattle.bounds.proofs.Closes.{close_keeps}

pub returns : goal.returns
returns c = close_keeps
