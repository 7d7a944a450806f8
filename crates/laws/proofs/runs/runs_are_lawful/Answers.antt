use Rattle.laws.proofs.runs.runs_are_lawful.Goals as goal
use Rattle.laws.proofs.Lawful.{runs_lawful}

pub returns : goal.returns
returns g c = runs_lawful g.C.Crew.rule g.W.Arranger.rule
