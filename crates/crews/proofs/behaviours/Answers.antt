use Rattle.crews.proofs.behaviours.Goals as goal
use Rattle.crews.proofs.Behaved.{behaviours_come_out}

pub returns : goal.returns
returns c = behaviours_come_out
