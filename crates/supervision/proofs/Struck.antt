-- The nodes after one of them is struck, and the children that its links lead to.
use Rattle.std.proofs.Common.{◌≡◌, ℕ, true, false, cond, eqb, ◌⊎◌, List, [], ◌∷◌, Some, sym, refl, ap, ◌∙◌, subst, inl, inr}
use Rattle.std.proofs.lemmas.Bool.{eq-eqb, ne_eqb, eqb-true, and_parts, and_from, or_left, or_right, cases_Bool, cases_eq}
use Rattle.keyed.specs.Keyed.{find, change}
use Rattle.keyed.specs.Members.{In, any}
use Rattle.keyed.proofs.Finds.{on, unmapped, find_key, find_change}
use Rattle.keyed.proofs.Searches.{in_any}
use Rattle.nodes.specs.declared.Node.{Node}
use Rattle.nodes.specs.Node.{serial_of}
use Rattle.links.specs.declared.Link.{Link}
use Rattle.links.specs.Link.{from, joins, children}
use Rattle.lineage.specs.Cascade.{condemned}

-- a node after the node s is struck, and as it was
pub record Before (s t : ℕ) (xs : List Node) (n' : Node) : Type 0 where
  pub was : Node
  pub lived : find serial_of t xs ≡ Some was
  pub parents : n'.parent ≡ was.parent
  pub either : ((t ≡ s) × (n'.aborted ≡ true)) ⊎ ((t ≡ s → ⊥) × (n' ≡ was))

pub before : (s t : ℕ) (xs : List Node) (n' : Node) → find serial_of t (change serial_of condemned s xs) ≡ Some n' → Before s t xs n'
before s t xs n' h =
    let u = unmapped (on serial_of s condemned) (find serial_of t xs) n' (sym (find_change serial_of condemned (λ _. refl) s t xs) ∙ h) in
    let serial = find_key serial_of t xs u.0 u.1 in
    elim (cases_eq t s) [
      | inl e ↦
          let a : n' ≡ condemned u.0 = u.2 ∙ rw (eq-eqb (serial_of u.0) s (serial ∙ e)) refl in
          record { was = u.0; lived = u.1; parents = ap (λ (m : Node). m.parent) a; either = inl (e, ap (λ (m : Node). m.aborted) a) }
      | inr e ↦
          let a : n' ≡ u.0 = u.2 ∙ rw (ne_eqb (serial_of u.0) s (λ z. e (sym serial ∙ z))) refl in
          record { was = u.0; lived = u.1; parents = ap (λ (m : Node). m.parent) a; either = inr (e, a) }
    ]

-- what a link leads to is among the children of its parent
in_children : (p : ℕ) (ls : List Link) (l : Link) → In l ls → l.parent ≡ p → In l.child (children p ls)
in_children p [] l h e = absurd h
in_children p (x ∷ xs) l (inl is) e =
    let a : from p x ≡ true = eq-eqb x.parent p (ap (λ (k : Link). k.parent) (sym is) ∙ e) in
    rw a (inl (ap (λ (k : Link). k.child) is))
in_children p (x ∷ xs) l (inr h) e =
    let rest = in_children p xs l h e in
    elim (from p x) as (λ b. In l.child (cond b (x.child ∷ children p xs) (children p xs))) [ true ↦ inr rest | false ↦ rest ]

pub linked_child : (p s : ℕ) (ls : List Link) → any (joins p s) ls ≡ true → In s (children p ls)
linked_child p s ls h =
    let w = in_any (joins p s) ls h in
    let both = and_parts (from p w.0) (eqb w.0.child s) w.2 in
    subst (λ c. In c (children p ls)) (eqb-true w.0.child s both.1) (in_children p ls w.0 w.1 (eqb-true w.0.parent p both.0))

pub child_linked : (p s : ℕ) (ls : List Link) → In s (children p ls) → any (joins p s) ls ≡ true
child_linked p s [] h = absurd h
child_linked p s (l ∷ ls) h = elim (cases_Bool (from p l)) [
  | inl e ↦ elim (subst (λ b. In s (cond b (l.child ∷ children p ls) (children p ls))) e h) [
    | inl c ↦ or_left (joins p s l) (any (joins p s) ls) (and_from (from p l) (eqb l.child s) e (eq-eqb l.child s (sym c)))
    | inr r ↦ or_right (joins p s l) (any (joins p s) ls) (child_linked p s ls r)
  ]
  | inr e ↦ or_right (joins p s l) (any (joins p s) ls) (child_linked p s ls (subst (λ b. In s (cond b (l.child ∷ children p ls) (children p ls))) e h))
]
