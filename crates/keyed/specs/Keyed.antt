-- Lists of records in ascending order of a key, over any record and any key.
--
-- ordered: in ascending order, within bounds      known: some record has the key
-- find: the record with the key                   change: the record with the key is changed
-- without: the record with the key is gone
use Rattle.std.specs.Prelude.{ℕ, suc, Bool, false, cond, ◌&&◌, ◌||◌, List, [], ◌∷◌, Some, None, Option, ◌==◌, nat_le}

module _ {X : Type 0} (key : X → ℕ) where
  -- the keys rise from low on, each above the one before, and stay below high; where there is none, low is at most high
  abbrev pub ordered : ℕ → ℕ → List X → Bool
  ordered low high [] = nat_le low high
  ordered low high (x ∷ xs) = nat_le low (key x) && ordered (suc (key x)) high xs

  -- the first record with the key k, if there is one
  abbrev pub find : ℕ → List X → Option X
  find k [] = None
  find k (x ∷ xs) = cond (key x == k) (Some x) (find k xs)

  -- some record has the key k
  abbrev pub known : ℕ → List X → Bool
  known k [] = false
  known k (x ∷ xs) = key x == k || known k xs

  -- each record with the key k is changed by f, and the others stay
  abbrev pub change : (X → X) → ℕ → List X → List X
  change f k [] = []
  change f k (x ∷ xs) = cond (key x == k) (f x) x ∷ change f k xs

  -- the records whose key is not k, in their order
  abbrev pub without : ℕ → List X → List X
  without k [] = []
  without k (x ∷ xs) = cond (key x == k) (without k xs) (x ∷ without k xs)
