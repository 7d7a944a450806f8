use Rattle.std.proofs.Common.{rules}
use Rattle.keyed.proofs.Maps.{zipped_map}
use Rattle.nodes.specs.Node.{released}
use Rattle.nodes.proofs.Nodes.release_all.Goals as goal

pub returns-clause-nodes : goal.returns-clause-nodes
returns-clause-nodes c = zipped_map _ (released c.args.task) (λ x y k. search rules) _ _ c.change_all.ensures.rows
