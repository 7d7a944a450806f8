-- One link: what is asked of it, and the children that links lead to.
use Rattle.std.specs.Prelude.{ℕ, Bool, cond, not, ◌&&◌, ◌||◌, List, [], ◌∷◌, is_some, ◌==◌}
use Rattle.keyed.specs.Keyed.{find}
use Rattle.nodes.specs.declared.Node.{Node}
use Rattle.nodes.specs.Node.{serial_of}
use Rattle.links.specs.declared.Link.{Link}

-- the link from p to s
abbrev pub link : ℕ → ℕ → Link
link p s = record { parent = p; child = s }

-- the link starts at p
abbrev pub from : ℕ → Link → Bool
from p l = l.parent == p

-- the link starts elsewhere
abbrev pub elsewhere : ℕ → Link → Bool
elsewhere p l = not (from p l)

-- the link goes from p to s
abbrev pub joins : ℕ → ℕ → Link → Bool
joins p s l = from p l && l.child == s

-- the link is no dead link of p: it starts elsewhere, or its child lives
abbrev pub survives : ℕ → List Node → Link → Bool
survives p nodes l = elsewhere p l || is_some (find serial_of l.child nodes)

-- the children that p is linked to, in linking order
abbrev pub children : ℕ → List Link → List ℕ
children p [] = []
children p (l ∷ ls) = cond (from p l) (l.child ∷ children p ls) (children p ls)
