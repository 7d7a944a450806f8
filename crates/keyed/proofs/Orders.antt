-- What an ascending order says of a list, and what keeps it.
use Rattle.std.proofs.Common.{◌≡◌, ℕ, zero, suc, ◌+◌, ◌<◌, ◌≤◌, true, cond, eqb, leb, List, [], ◌∷◌, ◌++◌, length, get_or, set, Some, None, Option, sym, refl, ap, ◌∙◌, arith}
use Rattle.std.proofs.lemmas.Bool.{ne_eqb, eqb-true, leb-true, le-leb, and_parts, and_from, cond_both}
use Rattle.keyed.specs.Keyed.{ordered, find, change, without}

module _ {X : Type 0} (key : X → ℕ) where
  -- what an order says of its first element
  pub ordered_first : (lo hi : ℕ) (x : X) (xs : List X) → ordered key lo hi (x ∷ xs) ≡ true → (lo ≤ key x) × (ordered key (suc (key x)) hi xs ≡ true)
  ordered_first lo hi x xs o =
      let p = and_parts (leb lo (key x)) (ordered key (suc (key x)) hi xs) o in
      (leb-true lo (key x) p.0, p.1)

  pub ordered_bounds : (lo hi : ℕ) (xs : List X) → ordered key lo hi xs ≡ true → lo ≤ hi
  ordered_bounds lo hi [] o = leb-true lo hi o
  ordered_bounds lo hi (x ∷ xs) o =
      let p = ordered_first lo hi x xs o in
      omega (arith, p.0, ordered_bounds (suc (key x)) hi xs p.1)

  pub ordered_lower : (lo lo' hi : ℕ) (xs : List X) → lo' ≤ lo → ordered key lo hi xs ≡ true → ordered key lo' hi xs ≡ true
  ordered_lower lo lo' hi [] h o = le-leb lo' hi (omega (arith, leb-true lo hi o))
  ordered_lower lo lo' hi (x ∷ xs) h o =
      let p = ordered_first lo hi x xs o in
      and_from _ _ (le-leb lo' (key x) (omega (arith, p.0))) p.1

  pub ordered_higher : (lo hi hi' : ℕ) (xs : List X) → hi ≤ hi' → ordered key lo hi xs ≡ true → ordered key lo hi' xs ≡ true
  ordered_higher lo hi hi' [] h o = le-leb lo hi' (omega (arith, leb-true lo hi o))
  ordered_higher lo hi hi' (x ∷ xs) h o =
      let p = and_parts (leb lo (key x)) (ordered key (suc (key x)) hi xs) o in
      and_from _ _ p.0 (ordered_higher (suc (key x)) hi hi' xs h p.1)

  -- one more at the end, with a key at or above the bound
  pub ordered_push_above : (lo hi hi' : ℕ) (xs : List X) (x : X) → ordered key lo hi xs ≡ true → hi ≤ key x → key x < hi' → ordered key lo hi' (xs ++ x ∷ []) ≡ true
  ordered_push_above lo hi hi' [] x o h h' =
      and_from _ _ (le-leb lo (key x) (omega (arith, leb-true lo hi o))) (le-leb (suc (key x)) hi' (omega arith))
  ordered_push_above lo hi hi' (y ∷ ys) x o h h' =
      let p = and_parts (leb lo (key y)) (ordered key (suc (key y)) hi ys) o in
      and_from _ _ p.0 (ordered_push_above (suc (key y)) hi hi' ys x p.1 h h')

  pub ordered_push : (lo hi : ℕ) (xs : List X) (x : X) → ordered key lo hi xs ≡ true → key x ≡ hi → ordered key lo (hi + 1) (xs ++ x ∷ []) ≡ true
  ordered_push lo hi xs x o e = ordered_push_above lo hi (hi + 1) xs x o (omega arith) (omega arith)

  -- a change that leaves the key
  pub ordered_change : (f : X → X) → ((x : X) → key (f x) ≡ key x) → (lo hi k : ℕ) (xs : List X) → ordered key lo hi xs ≡ true → ordered key lo hi (change key f k xs) ≡ true
  ordered_change f same lo hi k [] o = o
  ordered_change f same lo hi k (x ∷ xs) o =
      let p = and_parts (leb lo (key x)) (ordered key (suc (key x)) hi xs) o in
      let e : key (cond (eqb (key x) k) (f x) x) ≡ key x = cond_both (eqb (key x) k) (f x) x (λ (n : X). key n ≡ key x) (λ _. same x) (λ _. refl) in
      rw e (and_from _ _ p.0 (ordered_change f same (suc (key x)) hi k xs p.1))

  -- another record with the key takes the place of the one that has it
  pub ordered_put : (y : X) (lo hi : ℕ) (xs : List X) → ordered key lo hi xs ≡ true → ordered key lo hi (change key (λ _. y) (key y) xs) ≡ true
  ordered_put y lo hi [] o = o
  ordered_put y lo hi (x ∷ xs) o =
      let p = and_parts (leb lo (key x)) (ordered key (suc (key x)) hi xs) o in
      let e : key (cond (eqb (key x) (key y)) y x) ≡ key x = cond_both (eqb (key x) (key y)) y x (λ (n : X). key n ≡ key x) (λ t. sym (eqb-true (key x) (key y) t)) (λ _. refl) in
      rw e (and_from _ _ p.0 (ordered_put y (suc (key x)) hi xs p.1))

  pub ordered_without : (lo hi k : ℕ) (xs : List X) → ordered key lo hi xs ≡ true → ordered key lo hi (without key k xs) ≡ true
  ordered_without lo hi k [] o = o
  ordered_without lo hi k (x ∷ xs) o =
      let p = and_parts (leb lo (key x)) (ordered key (suc (key x)) hi xs) o in
      let q = leb-true lo (key x) p.0 in
      let rest = ordered_without (suc (key x)) hi k xs p.1 in
      cond_both (eqb (key x) k) (without key k xs) (x ∷ without key k xs) (λ (l : List X). ordered key lo hi l ≡ true)
      (λ _. ordered_lower (suc (key x)) lo hi (without key k xs) (omega arith) rest)
      (λ _. and_from _ _ p.0 rest)

  -- below the first key there is none
  pub find_low : (lo hi k : ℕ) (xs : List X) → ordered key lo hi xs ≡ true → k < lo → find key k xs ≡ None
  find_low lo hi k [] o h = refl
  find_low lo hi k (x ∷ xs) o h =
      let p = ordered_first lo hi x xs o in
      rw (ne_eqb (key x) k (λ e. omega (arith, p.0))) (find_low (suc (key x)) hi k xs p.1 (omega (arith, p.0)))

  pub change_low : (f : X → X) (lo hi k : ℕ) (xs : List X) → ordered key lo hi xs ≡ true → k < lo → change key f k xs ≡ xs
  change_low f lo hi k [] o h = refl
  change_low f lo hi k (x ∷ xs) o h =
      let p = ordered_first lo hi x xs o in
      rw (ne_eqb (key x) k (λ e. omega (arith, p.0))) (ap (λ (l : List X). x ∷ l) (change_low f (suc (key x)) hi k xs p.1 (omega (arith, p.0))))

  pub without_low : (lo hi k : ℕ) (xs : List X) → ordered key lo hi xs ≡ true → k < lo → without key k xs ≡ xs
  without_low lo hi k [] o h = refl
  without_low lo hi k (x ∷ xs) o h =
      let p = ordered_first lo hi x xs o in
      rw (ne_eqb (key x) k (λ e. omega (arith, p.0))) (ap (λ (l : List X). x ∷ l) (without_low (suc (key x)) hi k xs p.1 (omega (arith, p.0))))

  -- each element's key is within the bounds
  pub ordered_at : (lo hi : ℕ) (xs : List X) (i : ℕ) (d : X) → ordered key lo hi xs ≡ true → i < length xs → (lo ≤ key (get_or xs i d)) × (key (get_or xs i d) < hi)
  ordered_at lo hi [] i d o h = absurd (omega arith)
  ordered_at lo hi (x ∷ xs) zero d o h =
      let p = ordered_first lo hi x xs o in
      (p.0, omega (arith, ordered_bounds (suc (key x)) hi xs p.1))
  ordered_at lo hi (x ∷ xs) (suc i) d o h =
      let p = ordered_first lo hi x xs o in
      let q = ordered_at (suc (key x)) hi xs i d p.1 (omega arith) in
      (omega (arith, p.0, q.0), q.1)

  -- what a key finds lies within the bounds
  pub find_within : (lo hi k : ℕ) (xs : List X) (x : X) → ordered key lo hi xs ≡ true → find key k xs ≡ Some x → (lo ≤ k) × (k < hi)
  find_within lo hi k [] x o h = let z : ◌≡◌ {A = ℕ} 0 1 = cc in absurd (omega arith)
  find_within lo hi k (y ∷ ys) x o h =
      let p = ordered_first lo hi y ys o in
      cond_both (eqb (key y) k) (Some y) (find key k ys) (λ (r : Option X). r ≡ Some x → (lo ≤ k) × (k < hi))
      (λ e _. (omega (arith, p.0, eqb-true (key y) k e), omega (arith, ordered_bounds (suc (key y)) hi ys p.1, eqb-true (key y) k e)))
      (λ _ g. (let q = find_within (suc (key y)) hi k ys x p.1 g in (omega (arith, p.0, q.0), q.1)))
      h

  -- a write that leaves the key at its place
  pub ordered_set : (lo hi : ℕ) (xs : List X) (i : ℕ) (x y : X) → ordered key lo hi xs ≡ true → x ≡ get_or xs i x → key y ≡ key x → ordered key lo hi (set xs i y) ≡ true
  ordered_set lo hi [] i x y o read same = o
  ordered_set lo hi (z ∷ zs) zero x y o read same =
      let p = and_parts (leb lo (key z)) (ordered key (suc (key z)) hi zs) o in
      rw (same ∙ ap key read) (and_from _ _ p.0 p.1)
  ordered_set lo hi (z ∷ zs) (suc i) x y o read same =
      let p = and_parts (leb lo (key z)) (ordered key (suc (key z)) hi zs) o in
      and_from _ _ p.0 (ordered_set (suc (key z)) hi zs i x y p.1 read same)
