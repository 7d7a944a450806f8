use Rattle.std.proofs.Common.{rules}
use Rattle.keyed.proofs.Maps.{zipped_map}
use Rattle.nodes.specs.Node.{vacated}
use Rattle.nodes.proofs.Nodes.vacate.Goals as goal

pub returns-clause-nodes : goal.returns-clause-nodes
returns-clause-nodes c = zipped_map _ (vacated c.args.task) (λ x y k. search rules) _ _ c.change_all.ensures.rows
