-- What was told, with one tiding more.
use Rattle.std.proofs.Common.{◌≡◌, ℕ, false, eqb, ◌⊎◌, List, [], ◌∷◌, ◌++◌, refl, ap, inl, inr}
use Rattle.std.proofs.lemmas.Bool.{eq-eqb, both_ways}
use Rattle.keyed.specs.Members.{In}
use Rattle.keyed.proofs.Members.{in_left, in_right, in_parts}
use Rattle.deterministic.specs.Below.{Tiding, planted, seated, marked, ended, called}

-- tidings of two kinds are not the same
abbrev pub kind : Tiding → ℕ
kind (planted node parent) = 0
kind (seated task node) = 1
kind (marked task) = 2
kind (ended task) = 3
kind (called task) = 4

-- whom a tiding is about
abbrev pub whom : Tiding → ℕ
whom (planted node parent) = node
whom (seated task node) = task
whom (marked task) = task
whom (ended task) = task
whom (called task) = task

-- the other that a tiding names: the parent, or the seat
abbrev pub where_to : Tiding → ℕ
where_to (planted node parent) = parent
where_to (seated task node) = node
where_to (marked task) = task
where_to (ended task) = task
where_to (called task) = task

-- what is told with one tiding more was told before, or is that one
pub told_parts : (x y : Tiding) (told : List Tiding) → In x (told ++ y ∷ []) → In x told ⊎ (x ≡ y)
told_parts x y told h = elim (in_parts x told (y ∷ []) h) [ inl a ↦ inl a | inr b ↦ elim b [ inl e ↦ inr e | inr z ↦ absurd z ] ]

-- a tiding of another kind was told before
pub told_before : (x y : Tiding) (told : List Tiding) → eqb (kind x) (kind y) ≡ false → In x (told ++ y ∷ []) → In x told
told_before x y told apart h = elim (told_parts x y told h) [ inl a ↦ a | inr e ↦ absurd (both_ways (eqb (kind x) (kind y)) apart (eq-eqb (kind x) (kind y) (ap kind e))) ]

-- what was told stays told
pub told_still : (x y : Tiding) (told : List Tiding) → In x told → In x (told ++ y ∷ [])
told_still x y told h = in_left x told (y ∷ []) h

-- the last tiding is told
pub told_last : (x : Tiding) (told : List Tiding) → In x (told ++ x ∷ [])
told_last x told = in_right x told (x ∷ []) (inl refl)
