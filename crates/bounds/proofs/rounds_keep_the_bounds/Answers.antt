-- A lemma for each step.
use Rattle.bounds.proofs.rounds_keep_the_bounds.Goals as goal
use Rattle.bounds.proofs.Rounds.{steps_keep}

pub returns : goal.returns
returns c = steps_keep
