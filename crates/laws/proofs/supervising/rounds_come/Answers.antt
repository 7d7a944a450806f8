use Rattle.laws.proofs.supervising.rounds_come.Goals as goal
use Rattle.laws.proofs.KinStories.{rounds_come}

pub returns : goal.returns
returns c = rounds_come
