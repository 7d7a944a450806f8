use Rattle.crews.proofs.duties.Goals as goal
use Rattle.crews.proofs.Dutiful.{duties_are_done}

pub returns : goal.returns
returns c = duties_are_done
