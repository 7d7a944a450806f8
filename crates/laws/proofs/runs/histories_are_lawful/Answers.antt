use Rattle.laws.proofs.runs.histories_are_lawful.Goals as goal
use Rattle.laws.proofs.Lawful.{histories_lawful}

pub returns : goal.returns
returns g c = histories_lawful g.C.Crew.rule g.W.Arranger.rule
