-- A lemma for each call, granted or refused.
use Rattle.bounds.proofs.calls_keep_the_bounds.Goals as goal
use Rattle.bounds.proofs.Calls.{call_keeps}

pub returns : goal.returns
returns c call m s calm spare = call_keeps m s calm spare call
