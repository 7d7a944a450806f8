-- An outcome pends the task, ends it, or does nothing.
use Rattle.bounds.proofs.outcomes_keep_the_bounds.Goals as goal
use Rattle.bounds.proofs.Rounds.{outcome_keeps}

pub returns : goal.returns
returns c = outcome_keeps
