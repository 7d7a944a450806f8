use Rattle.std.proofs.Common.{rules}
use Rattle.nodes.specs.Node.{taken}
use Rattle.nodes.proofs.Nodes.seat.Goals as goal

pub returns-clause-nodes : goal.returns-clause-nodes
returns-clause-nodes c = c.change.ensures.rows (taken c.args.task) (λ x y k. search rules)
