-- The main laws of keyed lists, as one statement over any record and any key.
use Rattle.std.specs.Prelude.{◌≡◌, ℕ, ◌+◌, ◌<◌, true, List, [], ◌∷◌, ◌++◌, length, Some, slice_index_or, slice_set}
use Rattle.std.specs.List.{remove}
use Rattle.keyed.specs.Keyed.{ordered, find, change, without}

-- x is the element at a place of the list xs, and has the key k
pub record Stands {X : Type 0} (key : X → ℕ) (xs : List X) (k i : ℕ) (x : X) : Type 0 where
  pub within : i < length xs
  pub read : x ≡ slice_index_or xs i x
  pub keyed : key x ≡ k

-- what is done at the place of a key is what is done by the key, and the order stays
pub record Laws {X : Type 0} (key : X → ℕ) : Type 0 where
  -- the element at the place of a key is the one that the key finds
  pub finds : (high k : ℕ) (xs : List X) (i : ℕ) (x : X) → ordered key 0 high xs ≡ true → Stands key xs k i x → find key k xs ≡ Some x
  -- a write at the place of a key changes the record with that key and no other
  pub changes : (f : X → X) (high k : ℕ) (xs : List X) (i : ℕ) (x : X) → ordered key 0 high xs ≡ true → Stands key xs k i x → slice_set xs i (f x) ≡ change key f k xs
  -- a removal at the place of a key removes the record with that key and no other
  pub removes : (high k : ℕ) (xs : List X) (i : ℕ) (x : X) → ordered key 0 high xs ≡ true → Stands key xs k i x → remove xs i ≡ without key k xs
  -- a change that leaves the key leaves the order
  pub change_keeps : (f : X → X) → ((x : X) → key (f x) ≡ key x) → (low high k : ℕ) (xs : List X) → ordered key low high xs ≡ true → ordered key low high (change key f k xs) ≡ true
  -- a removal leaves the order
  pub without_keeps : (low high k : ℕ) (xs : List X) → ordered key low high xs ≡ true → ordered key low high (without key k xs) ≡ true
  -- a record with the next key goes to the end
  pub push_keeps : (low high : ℕ) (xs : List X) (x : X) → ordered key low high xs ≡ true → key x ≡ high → ordered key low (high + 1) (xs ++ x ∷ []) ≡ true
