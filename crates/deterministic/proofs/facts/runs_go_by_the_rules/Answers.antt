use Rattle.deterministic.proofs.facts.runs_go_by_the_rules.Goals as goal
use Rattle.deterministic.proofs.Derive.{run_derives}

pub returns : goal.returns
returns g c = run_derives g.C.Crew.rule g.W.Arranger.rule
