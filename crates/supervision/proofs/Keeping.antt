-- What keeps nodes alive goes on keeping them.
use Rattle.std.proofs.Common.{◌≡◌, ℕ, Bool, true, false, cond, not, ◌||◌, eqb, List, [], ◌∷◌, ◌++◌, map, is_some, Option, sym, refl, ap, ◌∙◌, subst, inl, inr}
use Rattle.std.proofs.lemmas.Bool.{or_left, or_right, or_cases, not-false}
use Rattle.keyed.specs.Keyed.{change}
use Rattle.keyed.specs.Choices.{holds}
use Rattle.keyed.specs.Members.{In, any}
use Rattle.keyed.proofs.Finds.{on}
use Rattle.keyed.proofs.Maps.{change_map, on_same, any_map}
use Rattle.keyed.proofs.Members.{in_parts}
use Rattle.keyed.proofs.Searches.{not_any, none_any, any_left}
use Rattle.nodes.specs.declared.Node.{Node}
use Rattle.nodes.specs.Node.{serial_of, fresh, child_of, kept, unkept}

-- every node of the list is kept alive
abbrev pub AllKept : List Node → Type 0
AllKept ns = any (unkept ns) ns ≡ false

-- an open context or a task keeps the node
abbrev pub held : Node → Bool
held n = is_some n.owner || is_some n.task

in_map : (g : Node → Node) (y : Node) (xs : List Node) → In y (map g xs) → (x : Node) × In x xs × (y ≡ g x)
in_map g y [] h = absurd h
in_map g y (x ∷ xs) (inl e) = (x, inl refl, e)
in_map g y (x ∷ xs) (inr h) = let w = in_map g y xs h in (w.0, inr w.1, w.2)

-- each node is changed, and keeps its serial, its parent and what it is held by
pub kept_map : (g : Node → Node) → ((n : Node) → (g n).serial ≡ n.serial) → ((n : Node) → (g n).parent ≡ n.parent) → ((n : Node) → held n ≡ true → held (g n) ≡ true) → (ns : List Node) → AllKept ns → AllKept (map g ns)
kept_map g serials parents Holds-on ns all =
    let children : (k : ℕ) → any (child_of k) (map g ns) ≡ any (child_of k) ns = λ k. any_map (child_of k) g (λ n. ap (holds k) (parents n)) ns in
    let still : (x : Node) → kept ns x ≡ true → kept (map g ns) (g x) ≡ true = λ x h. elim (or_cases (held x) (any (child_of x.serial) ns) h) [
      | inl t ↦ or_left (held (g x)) (any (child_of (g x).serial) (map g ns)) (Holds-on x t)
      | inr t ↦ or_right (held (g x)) (any (child_of (g x).serial) (map g ns)) (ap (λ k. any (child_of k) (map g ns)) (serials x) ∙ (children x.serial ∙ t))
    ] in
    none_any (unkept (map g ns)) (map g ns) (λ y i.
    let w = in_map g y ns i in
    ap (unkept (map g ns)) w.2 ∙ ap not (still w.0 (not-false (kept ns w.0) (not_any (unkept ns) ns all w.0 w.1))))

pub kept_change : (f : Node → Node) → ((n : Node) → (f n).serial ≡ n.serial) → ((n : Node) → (f n).parent ≡ n.parent) → ((n : Node) → held n ≡ true → held (f n) ≡ true) → (s : ℕ) (ns : List Node) → AllKept ns → AllKept (change serial_of f s ns)
kept_change f serials parents Holds-on s ns all =
    subst AllKept (sym (change_map serial_of f s ns))
    (kept_map (on serial_of s f) (on_same serial_of (λ (n : Node). n.serial) f serials s) (on_same serial_of (λ (n : Node). n.parent) f parents s)
    (λ n h. elim (eqb (serial_of n) s) as (λ b. held (cond b (f n) n) ≡ true) [ true ↦ Holds-on n h | false ↦ h ]) ns all)

-- one more node, whose context is open
pub kept_grown : (serial : ℕ) (parent : Option ℕ) (aborted : Bool) (owner : ℕ) (ns : List Node) → AllKept ns → AllKept (ns ++ fresh serial parent aborted owner ∷ [])
kept_grown serial parent aborted owner ns all =
    let new : Node = fresh serial parent aborted owner in
    let ms : List Node = ns ++ new ∷ [] in
    none_any (unkept ms) ms (λ x i. elim (in_parts x ns (new ∷ []) i) [
      | inl o ↦
          let was : kept ns x ≡ true = not-false (kept ns x) (not_any (unkept ns) ns all x o) in
          ap not (elim (or_cases (held x) (any (child_of x.serial) ns) was) as (λ _. kept ms x ≡ true) [
            | inl t ↦ or_left (held x) (any (child_of x.serial) ms) t
            | inr t ↦ or_right (held x) (any (child_of x.serial) ms) (any_left (child_of x.serial) ns (new ∷ []) t)
          ])
      | inr o ↦ elim o [ inl e ↦ ap (unkept ms) e | inr z ↦ absurd z ]
    ])
