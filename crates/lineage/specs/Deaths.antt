-- How nodes die: a node lives while its context is open, its task has not ended, or a child lives.
use Rattle.std.specs.Prelude.{ℕ, zero, suc, List, length, Some, None, filter, Option}
use Rattle.keyed.specs.Keyed.{change, without}
use Rattle.keyed.specs.Choices.{given}
use Rattle.keyed.specs.Members.{first}
use Rattle.nodes.specs.declared.Node.{Node}
use Rattle.nodes.specs.Node.{serial_of, bereaved, unkept}
use Rattle.links.specs.Link.{elsewhere}
use Rattle.lineage.specs.Family.{Family, family}

-- the parent, if there is one, counts one more dead child
abbrev pub mourned : Option ℕ → List Node → List Node
mourned None ns = ns
mourned (Some p) ns = change serial_of bereaved p ns

-- the node n is dead: its own links go, and the link to it stays with its parent
abbrev pub buried : Node → Family → Family
buried n F = family (mourned n.parent (without serial_of n.serial F.nodes)) (filter (elsewhere n.serial) F.links) F.next

-- a node that nothing keeps alive, if there is one
abbrev pub doomed : Family → Option Node
doomed F = first (unkept F.nodes) F.nodes

-- one node dies that nothing keeps alive, if there is one
abbrev pub one_dies : Family → Family
one_dies F = given (doomed F) F (λ n. buried n F)

-- f so many times over
abbrev pub repeated : {X : Type 0} → ℕ → (X → X) → X → X
repeated zero f x = x
repeated (suc k) f x = repeated k f (f x)

-- every node dies that nothing keeps alive, and so those that only a dead child kept
abbrev pub settled : Family → Family
settled F = repeated (length F.nodes) one_dies F
