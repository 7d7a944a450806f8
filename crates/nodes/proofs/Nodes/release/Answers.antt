use Rattle.std.proofs.Common.{rules, None}
use Rattle.nodes.specs.Node.{with_owner}
use Rattle.nodes.proofs.Nodes.release.Goals as goal

pub returns-clause-nodes : goal.returns-clause-nodes
returns-clause-nodes c = c.change.ensures.rows (with_owner None) (λ x y k. search rules)
