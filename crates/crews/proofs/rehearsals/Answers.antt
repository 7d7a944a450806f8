use Rattle.crews.proofs.rehearsals.Goals as goal
use Rattle.crews.proofs.Rehearsed.{rehearsals_come_out}

pub returns : goal.returns
returns c = rehearsals_come_out
