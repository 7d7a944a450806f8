-- The laws of a supervision tree.
use Rattle.std.specs.Prelude.{◌≡◌, ℕ, ◌+◌, ◌<◌, ◌≤◌, true, false, cond, ◌⊎◌, List, [], ◌∷◌, None}
use Rattle.keyed.specs.Members.{times}
use Rattle.nodes.specs.declared.Node.{Node}
use Rattle.nodes.specs.Node.{seats}
use Rattle.lineage.specs.Family.{Family, node_at}
use Rattle.supervision.specs.Sound.{Lives, Kin}

-- the living node s is `top`, or below it
pub data Under (F : Family) (top : ℕ) : ℕ → Type 0 where
  itself : {n : Node} → Lives F top n → Under F top top
  below : (k : Kin F) → Under F top k.born.parent → Under F top k.born.serial

-- every living node at s or under it is aborted
abbrev pub AllAborted : ℕ → Family → Type 0
AllAborted s F = (t : ℕ) (n : Node) → Under F s t → Lives F t n → n.aborted ≡ true

-- how many aborted nodes the task is seated at
abbrev pub struck_with : ℕ → List Node → ℕ
struck_with task [] = 0
struck_with task (n ∷ ns) = cond n.aborted (cond (seats task n) 1 0) 0 + struck_with task ns

-- the cascade from `top` made G of F, and gave these tasks
pub record Cascaded (F G : Family) (top : ℕ) (tasks : List ℕ) : Type 0 where
  -- every node at the top or under it is aborted
  pub all_under : (t : ℕ) (n : Node) → Under F top t → Lives G t n → n.aborted ≡ true
  -- and no node that was not aborted before, or is not under the top
  pub only_under : (t : ℕ) (n : Node) → Lives G t n → n.aborted ≡ true → (m : Node) × Lives F t m × ((m.aborted ≡ true) ⊎ Under F top t)
  -- no node is lost, and what was aborted stays so
  pub all_live : (t : ℕ) (m : Node) → Lives F t m → (n : Node) × Lives G t n × (m.aborted ≡ true → n.aborted ≡ true)
  -- each task that is seated at a node that came to be aborted is given once
  pub gives : (task t : ℕ) (n : Node) → Under F top t → Lives F t n → n.aborted ≡ false → seats task n ≡ true → times task tasks ≡ 1
  -- no task is given twice
  pub given_once : (task : ℕ) → times task tasks ≤ 1
  -- and each as often as nodes where it is seated came to be aborted
  pub given_for : (task : ℕ) → struck_with task G.nodes ≡ struck_with task F.nodes + times task tasks

-- G comes after F: a serial that was given out is never given to another node
pub record Aged (F G : Family) : Type 0 where
  -- the next serial never falls
  pub grows : F.next ≤ G.next
  -- a serial that was given out, and whose node is dead, has no node again
  pub gone : (t : ℕ) → t < F.next → node_at t F ≡ None → node_at t G ≡ None
  -- a node that was not there before has a serial that was not given out
  pub fresh : (t : ℕ) (n : Node) → Lives G t n → node_at t F ≡ None → F.next ≤ t

-- G comes after F, and so many serials were given out between
pub record Later (new : ℕ) (F G : Family) : Type 0 where
  pub serials : Aged F G
  pub next : G.next ≡ F.next + new
