use Rattle.laws.proofs.supervising.moments_are_truly_told.Goals as goal
use Rattle.laws.proofs.KinStories.{moment_truly_told}

pub returns : goal.returns
returns c = moment_truly_told
