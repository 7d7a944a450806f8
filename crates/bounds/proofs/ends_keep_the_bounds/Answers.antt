-- A lemma for each part of an end.
use Rattle.bounds.proofs.ends_keep_the_bounds.Goals as goal
use Rattle.bounds.proofs.Ends.{end_keeps}

pub returns : goal.returns
returns c = end_keeps
