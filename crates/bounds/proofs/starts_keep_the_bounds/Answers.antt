-- At the start all numbers are known.
use Rattle.bounds.proofs.starts_keep_the_bounds.Goals as goal
use Rattle.bounds.proofs.Closes.{starts}

pub returns : goal.returns
returns c = starts
