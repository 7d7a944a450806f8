use Rattle.std.proofs.Common.{rules}
use Rattle.nodes.specs.Node.{bereaved}
use Rattle.nodes.proofs.Nodes.bereave.Goals as goal

pub returns-clause-nodes : goal.returns-clause-nodes
returns-clause-nodes c = c.change.ensures.rows bereaved (λ x y k. search rules)
