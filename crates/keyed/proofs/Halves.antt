-- The search for a key by halves in an ascending list.
use Rattle.std.proofs.Common.{◌≡◌, ℕ, zero, suc, ◌+◌, ◌-◌, ◌/◌, ◌<◌, ◌≤◌, true, false, eqb, List, [], ◌∷◌, length, get_or, take, drop, sym, refl, ap, ◌∙◌, subst, arith}
use Rattle.std.proofs.lemmas.List.{at_drop_all, get_or_default}
use Rattle.std.proofs.lemmas.Bool.{ne_eqb, or_parts, or_from}
use Rattle.keyed.specs.Keyed.{ordered, known}
use Rattle.keyed.proofs.Orders.{ordered_first, ordered_at}

-- the key k is not before low, nor from high on: if it stands in the list, then between them
pub record Between {X : Type 0} (key : X → ℕ) (k : ℕ) (xs : List X) (low high : ℕ) : Type 0 where
  pub before : known key k (take low xs) ≡ false
  pub after : known key k (drop high xs) ≡ false

-- the invariant of the loop, over a list of length n
abbrev pub Halving : {X : Type 0} → (X → ℕ) → ℕ → List X → ℕ → ℕ → ℕ → Type 0
Halving key k xs n low high = (low ≤ high) × (high ≤ n) × Between key k xs low high

-- the place halfway
abbrev pub half : ℕ → ℕ → ℕ
half low high = low + (high - low) / 2

module _ {X : Type 0} (key : X → ℕ) where
  -- below the first key there is none
  pub known_low : (lo hi k : ℕ) (xs : List X) → ordered key lo hi xs ≡ true → k < lo → known key k xs ≡ false
  known_low lo hi k [] o h = refl
  known_low lo hi k (x ∷ xs) o h =
      let p = ordered_first key lo hi x xs o in
      or_from (eqb (key x) k) (known key k xs) (ne_eqb (key x) k (λ e. omega (arith, p.0))) (known_low (suc (key x)) hi k xs p.1 (omega (arith, p.0)))

  -- where a lower key stands, the key is neither there nor before
  known_before : (lo hi k : ℕ) (xs : List X) (i : ℕ) (d : X) → ordered key lo hi xs ≡ true → i < length xs → key (get_or xs i d) < k → known key k (take (suc i) xs) ≡ false
  known_before lo hi k [] i d o h below = refl
  known_before lo hi k (x ∷ xs) zero d o h below = or_from (eqb (key x) k) false (ne_eqb (key x) k (λ e. omega arith)) refl
  known_before lo hi k (x ∷ xs) (suc i) d o h below =
      let p = ordered_first key lo hi x xs o in
      let a = (ordered_at key (suc (key x)) hi xs i d p.1 (omega arith)).0 in
      or_from (eqb (key x) k) (known key k (take (suc i) xs)) (ne_eqb (key x) k (λ e. omega arith)) (known_before (suc (key x)) hi k xs i d p.1 (omega arith) below)

  -- where a higher key stands, the key is neither there nor after
  known_after : (lo hi k : ℕ) (xs : List X) (i : ℕ) (d : X) → ordered key lo hi xs ≡ true → i < length xs → k < key (get_or xs i d) → known key k (drop i xs) ≡ false
  known_after lo hi k [] i d o h above = absurd (omega arith)
  known_after lo hi k (x ∷ xs) zero d o h above =
      let p = ordered_first key lo hi x xs o in
      or_from (eqb (key x) k) (known key k xs) (ne_eqb (key x) k (λ e. omega arith)) (known_low (suc (key x)) hi k xs p.1 (omega arith))
  known_after lo hi k (x ∷ xs) (suc i) d o h above = known_after (suc (key x)) hi k xs i d (ordered_first key lo hi x xs o).1 (omega arith) above

  -- a key that is neither in the front nor in the rest is nowhere
  known_parts : (k : ℕ) (xs : List X) (i : ℕ) → known key k (take i xs) ≡ false → known key k (drop i xs) ≡ false → known key k xs ≡ false
  known_parts k xs zero front rest = rest
  known_parts k [] (suc i) front rest = refl
  known_parts k (x ∷ xs) (suc i) front rest =
      let p = or_parts (eqb (key x) k) (known key k (take i xs)) front in
      or_from (eqb (key x) k) (known key k xs) p.0 (known_parts k xs i p.1 rest)

  -- the record x is read at the place i, and j is its key
  pub key_here : (xs : List X) (i j : ℕ) (x : X) → j ≡ key x → x ≡ get_or xs i x → i < length xs → (d : X) → key (get_or xs i d) ≡ j
  key_here xs i j x is read h d = ap key (get_or_default xs i d x h ∙ sym read) ∙ sym is

  -- at the start the whole list is left
  pub half_start : (k n : ℕ) (xs : List X) → n ≡ length xs → Halving key k xs n 0 n
  half_start k n xs long = (omega arith, omega arith, record { before = refl; after = at_drop_all (known key k) xs n (omega arith) })

  -- the key j stands halfway in the list, which ascends
  module _ (hi k n : ℕ) (xs : List X) (low high j : ℕ) (o : ordered key 0 hi xs ≡ true) (long : n ≡ length xs) (inv : Halving key k xs n low high) (some : low < high) (here : half low high < n → (d : X) → key (get_or xs (half low high) d) ≡ j) where
    within : half low high < n
    within = omega (arith, inv.1)

    -- it is the one that is looked for
    pub half_hit : j ≡ k → (half low high < n) × ((d : X) → key (get_or xs (half low high) d) ≡ k)
    half_hit is = (within, λ d. here within d ∙ is)

    -- or what is up to there is ruled out
    pub half_above : (d : X) → j < k → Halving key k xs n (half low high + 1) high
    half_above d lower =
        let e = here within d in
        let w = within in
        let next : suc (half low high) ≡ half low high + 1 = omega arith in
        (omega arith, inv.1, record { before = subst (λ m. known key k (take m xs) ≡ false) next (known_before 0 hi k xs (half low high) d o (omega arith) (omega arith)); after = inv.2.after })

    -- or what is from there on
    pub half_below : (d : X) → (j ≡ k → ⊥) → k ≤ j → Halving key k xs n low (half low high)
    half_below d other higher =
        let e = here within d in
        let w = within in
        let above : k < j = omega (arith, other) in
        (omega arith, omega arith, record { before = inv.2.before; after = known_after 0 hi k xs (half low high) d o (omega arith) (omega arith) })

  -- nothing is left
  pub half_none : (k n : ℕ) (xs : List X) (low high : ℕ) → Halving key k xs n low high → high ≤ low → known key k xs ≡ false
  half_none k n xs low high inv past =
      let same : high ≡ low = omega (arith, inv.0) in
      known_parts k xs low inv.2.before (subst (λ m. known key k (drop m xs) ≡ false) same inv.2.after)
