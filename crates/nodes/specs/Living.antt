-- What a struct of nodes stands for: the living nodes, and the serial that comes next.
use Rattle.std.specs.Prelude.{ℕ, List}
use Rattle.keyed.specs.Table.{rows, next_key}
use Rattle.nodes.specs.declared.Node.{Node}
use Rattle.nodes.specs.declared.Nodes.{Nodes}

-- the living nodes, in ascending order of their serials
abbrev pub living : Nodes → List Node
living s = rows s.table

-- the serial of the node that is made next
abbrev pub next_serial : Nodes → ℕ
next_serial s = next_key s.table
