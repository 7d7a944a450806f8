-- What an arranger gives. Assumes nothing.
use Rattle.std.specs.Prelude.{◌≡◌, Bool, cond, List, length, count_by, nat_le}
use Rattle.std.specs.List.Sorted.{IsPermutation}
use Rattle.std.proofs.lemmas.List.Sorted.{IsPermutation-refl}

-- every test holds of as many elements of the one list as of the other: whatever stands in one, stands in both equally often
abbrev pub EquallyOften : {T : Type 0} → List T → List T → Type 0
EquallyOften {T} xs ys = (test : T → Bool) → count_by test ys ≡ count_by test xs

-- what one arranging gives: the arranger's value after it, the order, and that exchanges of places lead from the items to the
-- order, which has the same items, each equally often
pub record Order (V T : Type 0) (items : List T) : Type 0 where
  pub value : V
  pub order : List T
  pub same : IsPermutation items order

-- the items stay as they stand, and so does the arranger's value
abbrev pub kept : {V T : Type 0} → V → (items : List T) → Order V T items
kept v items = record { value = v; order = items; same = IsPermutation-refl items }

-- the arranger is asked where there are two items or more, and about fewer it is not
abbrev pub asked : {V T : Type 0} → (V → (items : List T) → Order V T items) → V → (items : List T) → Order V T items
asked rule v items = cond (nat_le 2 (length items)) (rule v items) (kept v items)
