-- A record that is found, written, added or removed at its place in a table.
use Rattle.std.proofs.Common.{◌≡◌, ℕ, ◌+◌, ◌<◌, ◌≤◌, true, List, [], ◌∷◌, ◌++◌, length, get_or, set, Some, None, Option, sym, refl, ap, ◌∙◌, arith}
use Rattle.std.specs.Option.{IfSome}
use Rattle.std.proofs.lemmas.List.{get_or_default}
use Rattle.keyed.specs.Keyed.{ordered, find, change}
use Rattle.keyed.proofs.Finds.{find_key}
use Rattle.keyed.proofs.Orders.{find_within, ordered_push_above}
use Rattle.keyed.proofs.Places.{change_write, ordered_put_at}

module _ {X : Type 0} (key : X → ℕ) where
  -- y, with the key k, is written where the key k stands
  module _ (hi k : ℕ) (xs ys : List X) (i : ℕ) (y : X) (o : ordered key 0 hi xs ≡ true) (h : i < length xs) (e : (d : X) → key (get_or xs i d) ≡ k) (same : key y ≡ k) (is : ys ≡ set xs i y) where
    read : get_or xs i y ≡ get_or xs i (get_or xs i y)
    read = get_or_default xs i y (get_or xs i y) h

    pub written_ordered : ordered key 0 hi ys ≡ true
    written_ordered = rw is (ordered_put_at key hi k xs i (length xs) o refl h e y same (get_or xs i y) read)

    pub written_changed : ys ≡ change key (λ _. y) k xs
    written_changed = is ∙ change_write key hi k xs i (length xs) o refl h e (λ _. y) (get_or xs i y) y read refl

  -- y, with a key from the bound on, is added at the end
  pub added_ordered : (hi next : ℕ) (xs ys : List X) (y : X) → ordered key 0 hi xs ≡ true → hi ≤ key y → next ≡ key y + 1 → ys ≡ xs ++ y ∷ [] → ordered key 0 next ys ≡ true
  added_ordered hi next xs ys y o h e is = rw (is, e) (ordered_push_above key 0 hi (key y + 1) xs y o h (omega arith))

  -- what a key finds has that key, which is below the bound
  pub found_below : (hi k : ℕ) (xs : List X) (r : Option X) → ordered key 0 hi xs ≡ true → r ≡ find key k xs → IfSome r (λ x. (key x ≡ k) × (k < hi))
  found_below hi k xs None o is = tt
  found_below hi k xs (Some x) o is = (find_key key k xs x (sym is), (find_within key 0 hi k xs x o (sym is)).1)

  -- x is read where the key k stands, and y has its key
  pub key_kept : (k : ℕ) (xs : List X) (i : ℕ) (x y : X) → ((d : X) → key (get_or xs i d) ≡ k) → key y ≡ key x → x ≡ get_or xs i x → key y ≡ k
  key_kept k xs i x y e same read = same ∙ (ap key read ∙ e x)

  -- x is read where the key k stands, and y, what a step makes of it, is written there
  pub stepped : (f : X → X) (hi k : ℕ) (xs ys : List X) (i : ℕ) (x y : X) → ordered key 0 hi xs ≡ true → i < length xs → ((d : X) → key (get_or xs i d) ≡ k) → x ≡ get_or xs i x → y ≡ f x → ys ≡ set xs i y → ys ≡ change key f k xs
  stepped f hi k xs ys i x y o h e read made is = is ∙ change_write key hi k xs i (length xs) o refl h e f x y read made
