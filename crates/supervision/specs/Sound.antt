-- What always holds of a supervision tree.
use Rattle.std.specs.Prelude.{◌≡◌, ℕ, ◌+◌, ◌≤◌, Bool, true, false, cond, List, [], ◌∷◌, is_some, Some, nat_lt}
use Rattle.keyed.specs.Members.{any}
use Rattle.nodes.specs.declared.Node.{Node}
use Rattle.nodes.specs.Node.{child_of, unkept, seats}
use Rattle.links.specs.Link.{joins}
use Rattle.lineage.specs.Family.{Family, node_at}

-- the node s lives, and is n
abbrev pub Lives : Family → ℕ → Node → Type 0
Lives F s n = node_at s F ≡ Some n

-- p has a link to s
abbrev pub has_link : ℕ → ℕ → Family → Bool
has_link p s F = any (joins p s) F.links

-- a living node, and the serial of its parent
pub record Born (F : Family) : Type 0 where
  pub serial : ℕ
  pub node : Node
  pub parent : ℕ
  pub lives : Lives F serial node
  pub under : child_of parent node ≡ true

-- a living node, and its living parent
pub record Kin (F : Family) : Type 0 where
  pub born : Born F
  pub above : Node
  pub stands : Lives F born.parent above

-- a link, and the living node that it leads to
pub record Led (F : Family) : Type 0 where
  pub parent : ℕ
  pub serial : ℕ
  pub node : Node
  pub links : has_link parent serial F ≡ true
  pub lives : Lives F serial node

-- a link, whether its child lives or not
pub record Joined (F : Family) : Type 0 where
  pub parent : ℕ
  pub serial : ℕ
  pub links : has_link parent serial F ≡ true

-- the parent of a living node lives
abbrev pub Rooted : Family → Type 0
Rooted F = (b : Born F) → is_some (node_at b.parent F) ≡ true

-- every living child of an aborted node is aborted
abbrev pub Shielded : Family → Type 0
Shielded F = (k : Kin F) → k.above.aborted ≡ true → k.born.node.aborted ≡ true

-- every living child of a node that is not aborted is linked there
abbrev pub Linked : Family → Type 0
Linked F = (k : Kin F) → k.above.aborted ≡ false → has_link k.born.parent k.born.serial F ≡ true

-- a link leads to a child of its parent, or to a dead node
abbrev pub Honest : Family → Type 0
Honest F = (l : Led F) → child_of l.parent l.node ≡ true

-- a link leads to a node that was born
abbrev pub Past : Family → Type 0
Past F = (l : Joined F) → nat_lt l.serial F.next ≡ true

-- whatever lives is kept alive by an open context, a task that has not ended, or a living child
abbrev pub Kept : Family → Type 0
Kept F = any (unkept F.nodes) F.nodes ≡ false

-- how many nodes the task is seated at
abbrev pub seats_with : ℕ → List Node → ℕ
seats_with task [] = 0
seats_with task (n ∷ ns) = cond (seats task n) 1 0 + seats_with task ns

-- no task is seated at two nodes
abbrev pub Single : Family → Type 0
Single F = (task : ℕ) → seats_with task F.nodes ≤ 1
