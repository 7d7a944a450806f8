-- One step of the cascade: what it does, and what it leaves to do.
use Rattle.std.proofs.Common.{◌≡◌, ℕ, suc, ◌+◌, ◌≤◌, Bool, true, false, cond, eqb, List, [], ◌∷◌, ◌++◌, length, Some, None, Option, refl, ap, ◌∙◌, inl, inr, arith}
use Rattle.std.proofs.lemmas.List.{length-append}
use Rattle.std.proofs.lemmas.Bool.{cond_both, cases_Bool}
use Rattle.std.specs.Option.{option_to_list}
use Rattle.keyed.specs.Keyed.{find, change}
use Rattle.keyed.proofs.Finds.{some_not_none}
use Rattle.nodes.specs.declared.Node.{Node}
use Rattle.nodes.specs.Node.{serial_of}
use Rattle.links.proofs.Gathering.{children_count}
use Rattle.lineage.specs.Family.{Family, node_at}
use Rattle.lineage.specs.Cascade.{Step, condemned, passed, struck, step_at, step, unaborted}

module _ (s : ℕ) (F : Family) where
  -- a node that is dead is passed over
  pub step_dead : node_at s F ≡ None → step s F ≡ passed F
  step_dead h = ap (λ (o : Option Node). step_at s o F) h

  -- so is one that lives and is aborted, and any other that lives is struck
  module _ (n : Node) (found : node_at s F ≡ Some n) where
    pub step_passed : n.aborted ≡ true → step s F ≡ passed F
    step_passed h = ap (λ (o : Option Node). step_at s o F) found ∙ rw h refl

    pub step_struck : n.aborted ≡ false → step s F ≡ struck s n F
    step_struck h = ap (λ (o : Option Node). step_at s o F) found ∙ rw h refl

unaborted_change : (s : ℕ) (xs : List Node) → unaborted (change serial_of condemned s xs) ≤ unaborted xs
unaborted_change s [] = omega arith
unaborted_change s (x ∷ xs) =
    let rest = unaborted_change s xs in
    let Q : Bool → Type 0 = λ a. cond a (unaborted (change serial_of condemned s xs)) (suc (unaborted (change serial_of condemned s xs))) ≤ cond a (unaborted xs) (suc (unaborted xs)) in
    let R : Bool → Type 0 = λ a. unaborted (change serial_of condemned s xs) ≤ cond a (unaborted xs) (suc (unaborted xs)) in
    elim (eqb (serial_of x) s) as (λ b. unaborted (cond b (condemned x) x ∷ change serial_of condemned s xs) ≤ unaborted (x ∷ xs)) [
      | true ↦ elim x.aborted as R [ true ↦ rest | false ↦ omega arith ]
      | false ↦ elim x.aborted as Q [ true ↦ rest | false ↦ omega arith ]
    ]

-- each node that is struck leaves fewer to strike
pub unaborted_hit : (s : ℕ) (xs : List Node) (n : Node) → find serial_of s xs ≡ Some n → n.aborted ≡ false → suc (unaborted (change serial_of condemned s xs)) ≤ unaborted xs
unaborted_hit s [] n found h = absurd (some_not_none refl found)
unaborted_hit s (x ∷ xs) n found h = elim (cases_Bool (eqb (serial_of x) s)) [
  | inl e ↦
      let is : x ≡ n = (let f = rw e at found in cc) in
      let a : x.aborted ≡ false = ap (λ (m : Node). m.aborted) is ∙ h in
      rw (e, a) (omega (arith, unaborted_change s xs))
  | inr e ↦
      let rest = unaborted_hit s xs n (rw e at found) h in
      let Q : Bool → Type 0 = λ a. suc (cond a (unaborted (change serial_of condemned s xs)) (suc (unaborted (change serial_of condemned s xs)))) ≤ cond a (unaborted xs) (suc (unaborted xs)) in
      rw e (elim x.aborted as Q [ true ↦ rest | false ↦ omega arith ])
]

pub unaborted_few : (xs : List Node) → unaborted xs ≤ length xs
unaborted_few [] = omega arith
unaborted_few (x ∷ xs) =
    let rest = unaborted_few xs in
    elim x.aborted as (λ a. cond a (unaborted xs) (suc (unaborted xs)) ≤ suc (length xs)) [ true ↦ omega arith | false ↦ omega arith ]

length_list_of : (o : Option ℕ) → length (option_to_list o) ≤ 1
length_list_of None = omega arith
length_list_of (Some k) = omega arith

-- what a step leaves: links go over to what waits, and marks stand against nodes that are struck
pub record Leaves (F : Family) (v : Step) : Type 0 where
  pub falls : length v.below + length v.after.links ≡ length F.links
  pub room : length v.marks + unaborted v.after.nodes ≤ unaborted F.nodes

step_leaves_at : (s : ℕ) (o : Option Node) (F : Family) → node_at s F ≡ o → Leaves F (step_at s o F)
step_leaves_at s None F e = record { falls = omega arith; room = omega arith }
step_leaves_at s (Some n) F e =
    cond_both n.aborted (passed F) (struck s n F) (Leaves F)
    (λ _. record { falls = omega arith; room = omega arith })
    (λ a. record { falls = children_count s F.links; room = omega (arith, unaborted_hit s F.nodes n e a, length_list_of n.task) })

pub step_leaves : (s : ℕ) (F : Family) → Leaves F (step s F)
step_leaves s F = step_leaves_at s (node_at s F) F refl

-- a turn of the walk: s is taken from the end of what waits, and its children are put there
pub turn_falls : (s : ℕ) (F G : Family) (p q p' : List ℕ) → p ≡ q ++ s ∷ [] → p' ≡ q ++ (step s F).below → G ≡ (step s F).after → length p + length F.links ≡ (length p' + length G.links) + 1
turn_falls s F G p q p' popped waits after =
    let a = ap length popped ∙ length-append q (s ∷ []) in
    let b = ap length waits ∙ length-append q (step s F).below in
    let d = ap (λ (f : Family). length f.links) after in
    omega (arith, a, b, d, (step_leaves s F).falls)

pub turn_room : (s : ℕ) (F G : Family) (marks marks' : List ℕ) → marks' ≡ marks ++ (step s F).marks → G ≡ (step s F).after → length marks' + unaborted G.nodes ≤ length marks + unaborted F.nodes
turn_room s F G marks marks' noted after =
    let a = ap length noted ∙ length-append marks (step s F).marks in
    let d = ap (λ (f : Family). unaborted f.nodes) after in
    omega (arith, a, d, (step_leaves s F).room)
