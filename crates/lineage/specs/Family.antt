-- The model of a supervision tree: its living nodes, its links and the serial that comes next.
use Rattle.std.specs.Prelude.{ℕ, Bool, false, List, length, Option, nat_lt}
use Rattle.keyed.specs.Keyed.{find, change}
use Rattle.keyed.specs.Choices.{given, holds}
use Rattle.nodes.specs.declared.Node.{Node}
use Rattle.nodes.specs.Node.{serial_of}
use Rattle.nodes.specs.Living.{living, next_serial}
use Rattle.links.specs.declared.Link.{Link}
use Rattle.links.specs.Linked.{linked}
use Rattle.lineage.specs.declared.Lineage.{Lineage}

-- a tree as a reader sees it
pub record Family : Type 0 where
  -- the living nodes, in ascending order of their serials
  pub nodes : List Node
  -- the links, in linking order
  pub links : List Link
  -- the serial of the node that is made next
  pub next : ℕ

-- a family from its parts
abbrev pub family : List Node → List Link → ℕ → Family
family ns ls k = record { nodes = ns; links = ls; next = k }

-- what nodes and links stand for together
abbrev pub family_of : Lineage → Family
family_of l = family (living l.nodes) (linked l.links) (next_serial l.nodes)

-- the living node with the serial s
abbrev pub node_at : ℕ → Family → Option Node
node_at s F = find serial_of s F.nodes

-- the node s is changed, if it lives
abbrev pub changed : (Node → Node) → ℕ → Family → Family
changed f s F = family (change serial_of f s F.nodes) F.links F.next

-- the context s is open and the task holds it
abbrev pub open_for : ℕ → ℕ → Family → Bool
open_for task s F = given (node_at s F) false (λ n. holds task n.owner)

-- the node s lives and is aborted
abbrev pub aborted_at : ℕ → Family → Bool
aborted_at s F = given (node_at s F) false (λ n. n.aborted)

-- fewer than 128 nodes live
abbrev pub node_free : Family → Bool
node_free F = nat_lt (length F.nodes) 128
