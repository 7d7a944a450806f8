-- What holds of the registry and the tree after what was told of them, and why a body may be called then.
use Rattle.std.proofs.Common.{◌≡◌, ℕ, ◌<◌, true, false, ◌⊎◌, List, [], Some, None, refl, ap, ◌∙◌, inl, inr}
use Rattle.std.proofs.lemmas.Bool.{cases_Bool, both_ways, eq-eqb}
use Rattle.keyed.specs.Keyed.{ordered, find}
use Rattle.keyed.specs.Choices.{holds}
use Rattle.keyed.specs.Members.{In}
use Rattle.keyed.proofs.Finds.{some_not_none}
use Rattle.keyed.proofs.Maps.{some_is}
use Rattle.nodes.specs.declared.Node.{Node}
use Rattle.lineage.specs.Family.{Family, node_at}
use Rattle.supervision.specs.Sound.{Lives, Born}
use Rattle.supervision.proofs.Whole.{Whole}
use Rattle.deterministic.specs.Model.{Task, Registry, id_of}
use Rattle.deterministic.specs.Below.{Tiding, planted, seated, marked, ended, Under, child, further, Below, MayBeCalled}

-- the tree, as it was told
pub record TreeTold (told : List Tiding) (F : Family) : Type 0 where
  pub whole : Whole F
  -- a node that was told planted is not one to come, and while it lives unaborted its parent is the one told
  pub plants : (s p : ℕ) → In (planted s p) told → (s < F.next) × ((n : Node) → Lives F s n → n.aborted ≡ false → n.parent ≡ Some p)
  -- a living node with a parent was told planted under it
  pub parents : (s p : ℕ) (n : Node) → Lives F s n → n.parent ≡ Some p → In (planted s p) told
  -- every living node but the top was told planted
  pub origins : (s : ℕ) (n : Node) → Lives F s n → (s ≡ 0) ⊎ ((p : ℕ) × In (planted s p) told)
  -- a task that sits at a node was told seated there
  pub seats : (i s : ℕ) (n : Node) → Lives F s n → n.task ≡ Some i → In (seated i s) told
  -- the node where a task was told seated is not one to come
  pub places : (i s : ℕ) → In (seated i s) told → s < F.next
  -- nobody sits at the node of an open context
  pub empty : (k s : ℕ) (n : Node) → Lives F s n → n.owner ≡ Some k → n.task ≡ None

-- the registered task of an id
abbrev pub Listed : Registry → ℕ → Task → Type 0
Listed r i t = find id_of i r.tasks ≡ Some t

-- the seat of a registered task that was told seated at s
pub record ToldSeat (told : List Tiding) (i : ℕ) (t : Task) : Type 0 where
  pub node : ℕ
  pub home : t.node ≡ Some node
  pub is_told : In (seated i node) told

-- the registry, as it was told
pub record RegistryTold (told : List Tiding) (r : Registry) : Type 0 where
  pub order : ordered id_of 0 r.next r.tasks ≡ true
  -- a task that was told marked is marked while it is registered
  pub marks : (i : ℕ) → In (marked i) told → (i < r.next) × ((t : Task) → Listed r i t → t.marked ≡ true)
  -- a task that was told ended is not registered
  pub ends : (i : ℕ) → In (ended i) told → (i < r.next) × (find id_of i r.tasks ≡ None)
  -- a task that was told seated has that node while it is registered
  pub homes : (i s : ℕ) → In (seated i s) told → (i < r.next) × ((t : Task) → Listed r i t → t.node ≡ Some s)
  -- a registered task but the root was told seated at its node
  pub seats : (i : ℕ) (t : Task) → Listed r i t → (i ≡ 0) ⊎ ToldSeat told i t
  -- a registered task that is marked was told marked
  pub marked_truly : (i : ℕ) (t : Task) → Listed r i t → t.marked ≡ true → In (marked i) told
  -- a task that is no longer registered was told ended
  pub ended_truly : (i : ℕ) → i < r.next → find id_of i r.tasks ≡ None → In (ended i) told

-- a task sits at the node s; where that is aborted, the task is marked, or is late: it will be marked or end
pub record Sits (late : List ℕ) (F : Family) (i s : ℕ) (t : Task) : Type 0 where
  pub is : Node
  pub lives : Lives F s is
  pub task : is.task ≡ Some i
  pub spared : is.aborted ≡ true → (t.marked ≡ true) ⊎ In i late

-- both, and what is between them
pub record Watched (told : List Tiding) (late : List ℕ) (r : Registry) (F : Family) : Type 0 where
  pub tree : TreeTold told F
  pub registry : RegistryTold told r
  -- a registered task sits where it was told seated
  pub sits : (i s : ℕ) (t : Task) → In (seated i s) told → Listed r i t → Sits late F i s t
  -- the node of a task that was told ended is aborted or dead
  pub falls : (i s : ℕ) (n : Node) → In (ended i) told → In (seated i s) told → Lives F s n → n.aborted ≡ true

-- a living node that was told planted under an aborted node, or under a dead one, is aborted
falls_with : (told : List Tiding) (F : Family) → TreeTold told F → (s p : ℕ) → In (planted s p) told → ((n : Node) → Lives F p n → n.aborted ≡ true) → (n : Node) → Lives F s n → n.aborted ≡ true
falls_with told F ok s p h fallen n l = elim (cases_Bool n.aborted) [
  | inl a ↦ a
  | inr q ↦
      let under : holds p n.parent ≡ true = ap (holds p) ((ok.plants s p h).1 n l q) ∙ eq-eqb p p refl in
      let b : Born F = record { serial = s; node = n; parent = p; lives = l; under = under } in
      let up = some_is (node_at p F) (ok.whole.solid.frame.rooted b) in
      ok.whole.solid.shielded (record { born = b; above = up.0; stands = up.1 }) (fallen up.0 up.1)
]

-- so is every living node that was told under such a node
climb : (told : List Tiding) (F : Family) → TreeTold told F → {s top : ℕ} → Under told s top → ((n : Node) → Lives F top n → n.aborted ≡ true) → (n : Node) → Lives F s n → n.aborted ≡ true
climb told F ok {s} {top} (child h) fallen n l = falls_with told F ok s top h fallen n l
climb told F ok {s} {top} (further {parent = p} h u) fallen n l = falls_with told F ok s p h (λ m k. climb told F ok u fallen m k) n l

-- a registered task that is below an ended one is marked
pub below_marked : (told : List Tiding) (r : Registry) (F : Family) → Watched told [] r F → (i other : ℕ) (t : Task) → Listed r i t → Below told i other → In (ended other) told → t.marked ≡ true
below_marked told r F ok i other t is b h =
    let home = ok.sits i b.node t b.sits is in
    let fell = climb told F ok.tree b.under (λ n l. ok.falls other b.top n h b.other_sits l) home.is home.lives in
    elim (home.spared fell) [ inl m ↦ m | inr z ↦ absurd z ]

-- the body of a registered task that is not marked may be called
pub may_be_called : (told : List Tiding) (r : Registry) (F : Family) → Watched told [] r F → (i : ℕ) (t : Task) → Listed r i t → t.marked ≡ false → MayBeCalled told i
may_be_called told r F ok i t is quiet = record {
  not_marked = λ h. both_ways t.marked quiet ((ok.registry.marks i h).1 t is);
  not_ended = λ h. some_not_none (ok.registry.ends i h).1 is;
  not_below = λ other b h. both_ways t.marked quiet (below_marked told r F ok i other t is b h);
}
