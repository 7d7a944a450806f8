use Rattle.growth.proofs.Growth.{grows}
use Rattle.growth.proofs.grows.Goals as goal

pub returns : goal.returns
returns c = grows
