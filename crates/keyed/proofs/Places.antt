-- The place of a key, and what is read, written or removed there.
use Rattle.std.proofs.Common.{◌≡◌, ℕ, zero, suc, ◌<◌, true, false, eqb, List, [], ◌∷◌, length, get_or, set, Some, None, sym, refl, ap, ◌∙◌, arith}
use Rattle.std.proofs.lemmas.Bool.{ne_eqb, eq-eqb, or_parts}
use Rattle.std.specs.List.{remove}
use Rattle.keyed.specs.Keyed.{ordered, find, known, change, without}
use Rattle.keyed.proofs.Orders.{ordered_first, ordered_at, ordered_set, ordered_without, change_low, without_low}

module _ {X : Type 0} (key : X → ℕ) where
  pub find_at : (lo hi k : ℕ) (xs : List X) (i : ℕ) (d : X) → ordered key lo hi xs ≡ true → i < length xs → key (get_or xs i d) ≡ k → find key k xs ≡ Some (get_or xs i d)
  find_at lo hi k [] i d o h e = absurd (omega arith)
  find_at lo hi k (x ∷ xs) zero d o h e = rw (eq-eqb (key x) k e) refl
  find_at lo hi k (x ∷ xs) (suc i) d o h e =
      let p = ordered_first key lo hi x xs o in
      let a = (ordered_at key (suc (key x)) hi xs i d p.1 (omega arith)).0 in
      rw (ne_eqb (key x) k (λ z. omega arith)) (find_at (suc (key x)) hi k xs i d p.1 (omega arith) e)

  pub change_at : (f : X → X) (lo hi k : ℕ) (xs : List X) (i : ℕ) (d : X) → ordered key lo hi xs ≡ true → i < length xs → key (get_or xs i d) ≡ k → set xs i (f (get_or xs i d)) ≡ change key f k xs
  change_at f lo hi k [] i d o h e = absurd (omega arith)
  change_at f lo hi k (x ∷ xs) zero d o h e =
      let p = ordered_first key lo hi x xs o in
      rw (eq-eqb (key x) k e) (ap (λ (l : List X). f x ∷ l) (sym (change_low key f (suc (key x)) hi k xs p.1 (omega arith))))
  change_at f lo hi k (x ∷ xs) (suc i) d o h e =
      let p = ordered_first key lo hi x xs o in
      let a = (ordered_at key (suc (key x)) hi xs i d p.1 (omega arith)).0 in
      rw (ne_eqb (key x) k (λ z. omega arith)) (ap (λ (l : List X). x ∷ l) (change_at f (suc (key x)) hi k xs i d p.1 (omega arith) e))

  pub without_at : (lo hi k : ℕ) (xs : List X) (i : ℕ) (d : X) → ordered key lo hi xs ≡ true → i < length xs → key (get_or xs i d) ≡ k → remove xs i ≡ without key k xs
  without_at lo hi k [] i d o h e = absurd (omega arith)
  without_at lo hi k (x ∷ xs) zero d o h e =
      let p = ordered_first key lo hi x xs o in
      rw (eq-eqb (key x) k e) (sym (without_low key (suc (key x)) hi k xs p.1 (omega arith)))
  without_at lo hi k (x ∷ xs) (suc i) d o h e =
      let p = ordered_first key lo hi x xs o in
      let a = (ordered_at key (suc (key x)) hi xs i d p.1 (omega arith)).0 in
      rw (ne_eqb (key x) k (λ z. omega arith)) (ap (λ (l : List X). x ∷ l) (without_at (suc (key x)) hi k xs i d p.1 (omega arith) e))

  pub change_none : (f : X → X) (k : ℕ) (xs : List X) → known key k xs ≡ false → change key f k xs ≡ xs
  change_none f k [] h = refl
  change_none f k (x ∷ xs) h =
      let p = or_parts (eqb (key x) k) (known key k xs) h in
      rw p.0 (ap (λ (l : List X). x ∷ l) (change_none f k xs p.1))

  pub without_none : (k : ℕ) (xs : List X) → known key k xs ≡ false → without key k xs ≡ xs
  without_none k [] h = refl
  without_none k (x ∷ xs) h =
      let p = or_parts (eqb (key x) k) (known key k xs) h in
      rw p.0 (ap (λ (l : List X). x ∷ l) (without_none k xs p.1))

  pub find_none : (k : ℕ) (xs : List X) → known key k xs ≡ false → find key k xs ≡ None
  find_none k [] h = refl
  find_none k (x ∷ xs) h =
      let p = or_parts (eqb (key x) k) (known key k xs) h in
      rw p.0 (find_none k xs p.1)

  -- at the place i of the key k in the list xs, of length n: x is read there
  module _ (hi k : ℕ) (xs : List X) (i n : ℕ) (o : ordered key 0 hi xs ≡ true) (len : n ≡ length xs) (h : i < n) (e : (d : X) → key (get_or xs i d) ≡ k) where
    pub find_read : (x : X) → x ≡ get_or xs i x → find key k xs ≡ Some x
    find_read x read = find_at 0 hi k xs i x o (omega arith) (e x) ∙ ap Some (sym read)

    -- and y is written
    pub change_write : (f : X → X) (x y : X) → x ≡ get_or xs i x → y ≡ f x → set xs i y ≡ change key f k xs
    change_write f x y read is = ap (λ (z : X). set xs i z) (is ∙ ap f read) ∙ change_at f 0 hi k xs i x o (omega arith) (e x)

    -- a record of the same key is put there
    pub ordered_put_at : (y : X) → key y ≡ k → (x : X) → x ≡ get_or xs i x → ordered key 0 hi (set xs i y) ≡ true
    ordered_put_at y same x read = ordered_set key 0 hi xs i x y o read (same ∙ sym (ap key read ∙ e x))

    -- or it is removed
    pub without_removal : (ys : List X) (x : X) → ys ≡ remove xs i → ys ≡ without key k xs
    without_removal ys x is = is ∙ without_at 0 hi k xs i x o (omega arith) (e x)

    pub ordered_removal : (ys : List X) (x : X) → ys ≡ remove xs i → ordered key 0 hi ys ≡ true
    ordered_removal ys x is = rw (without_removal ys x is) (ordered_without key 0 hi k xs o)
