-- What stands in a list, and how often.
use Rattle.std.specs.Prelude.{◌≡◌, ℕ, ◌+◌, Bool, cond, ◌⊎◌, List, [], ◌∷◌, Option, ◌==◌}
use Rattle.std.specs.List.{find, list_any}

-- x stands in the list
abbrev pub In : {X : Type 0} → X → List X → Type 0
In x [] = ⊥
In x (y ∷ ys) = (x ≡ y) ⊎ In x ys

-- some element passes the test
abbrev pub any : {X : Type 0} → (X → Bool) → List X → Bool
any = list_any

-- the first element that passes the test, if one does
abbrev pub first : {X : Type 0} → (X → Bool) → List X → Option X
first = find

-- how often the number k stands in the list
abbrev pub times : ℕ → List ℕ → ℕ
times k [] = 0
times k (x ∷ xs) = cond (x == k) 1 0 + times k xs
