-- How many records of a list pass a test, after changes, a removal and one more at the end.
use Rattle.std.proofs.Common.{◌≡◌, ℕ, ◌+◌, ◌≤◌, Bool, true, false, cond, eqb, List, [], ◌∷◌, ◌++◌, map, length, Some, None, Option, sym, refl, ap, ◌∙◌, subst, inl, inr, arith}
use Rattle.std.proofs.lemmas.Bool.{cases_Bool, false≢true}
use Rattle.std.specs.Option.{option_map}
use Rattle.keyed.specs.Keyed.{find, change, without}
use Rattle.keyed.specs.Choices.{given}
use Rattle.keyed.proofs.Finds.{on, find_change, find_push_old}
use Rattle.keyed.proofs.Maps.{change_map, on_same}

-- one for what passes, and nothing for what does not
abbrev pub weight : Bool → ℕ
weight b = cond b 1 0

-- how many of these records pass the test
unfoldable pub counted : {X : Type 0} → (X → Bool) → List X → ℕ
counted test [] = 0
counted test (x ∷ xs) = weight (test x) + counted test xs

module _ {X : Type 0} (test : X → Bool) where
  -- what passes after f passed before
  abbrev pub NeverGains : (X → X) → Type 0
  NeverGains f = (x : X) → weight (test (f x)) ≤ weight (test x)

  -- f does not touch the test
  abbrev pub Keeps : (X → X) → Type 0
  Keeps f = (x : X) → test (f x) ≡ test x

  -- nothing passes after f
  abbrev pub Ends : (X → X) → Type 0
  Ends f = (x : X) → test (f x) ≡ false

  pub keeps_gains_none : (f : X → X) → Keeps f → NeverGains f
  keeps_gains_none f same x = let e = ap weight (same x) in omega (arith, e)

  pub ends_gains_none : (f : X → X) → Ends f → NeverGains f
  ends_gains_none f none x = let e = ap weight (none x) in omega (arith, e)

  -- a change that is made or not
  pub either_gains_none : (f : X → X) → NeverGains f → (which : X → Bool) → NeverGains (λ x. cond (which x) (f x) x)
  either_gains_none f less which x = elim (which x) as (λ b. weight (test (cond b (f x) x)) ≤ weight (test x)) [ true ↦ less x | false ↦ omega arith ]

  pub counted_most : (xs : List X) → counted test xs ≤ length xs
  unfolding counted
  counted_most [] = omega arith
  counted_most (x ∷ xs) =
      let rest = counted_most xs in
      elim (test x) as (λ b. weight b + counted test xs ≤ length (x ∷ xs)) [ true ↦ omega arith | false ↦ omega arith ]

  pub counted_map : (g : X → X) → NeverGains g → (xs : List X) → counted test (map g xs) ≤ counted test xs
  unfolding counted
  counted_map g less [] = omega arith
  counted_map g less (x ∷ xs) = omega (arith, less x, counted_map g less xs)

  pub counted_map_same : (g : X → X) → Keeps g → (xs : List X) → counted test (map g xs) ≡ counted test xs
  unfolding counted
  counted_map_same g same [] = refl
  counted_map_same g same (x ∷ xs) = let e = ap weight (same x) in omega (arith, e, counted_map_same g same xs)

  pub counted_push : (xs : List X) (x : X) → counted test (xs ++ x ∷ []) ≡ counted test xs + weight (test x)
  unfolding counted
  counted_push [] x = omega arith
  counted_push (y ∷ ys) x = omega (arith, counted_push ys x)

  module _ (key : X → ℕ) where
    pub counted_change : (f : X → X) → NeverGains f → (s : ℕ) (xs : List X) → counted test (change key f s xs) ≤ counted test xs
    counted_change f less s xs =
        subst (λ (l : List X). counted test l ≤ counted test xs) (sym (change_map key f s xs))
        (counted_map (on key s f) (either_gains_none f less (λ x. eqb (key x) s)) xs)

    pub counted_change_same : (f : X → X) → Keeps f → (s : ℕ) (xs : List X) → counted test (change key f s xs) ≡ counted test xs
    counted_change_same f same s xs = ap (counted test) (change_map key f s xs) ∙ counted_map_same (on key s f) (on_same key test f same s) xs

    pub counted_without : (s : ℕ) (xs : List X) → counted test (without key s xs) ≤ counted test xs
    unfolding counted
    counted_without s [] = omega arith
    counted_without s (x ∷ xs) =
        let rest = counted_without s xs in
        elim (eqb (key x) s) as (λ b. counted test (cond b (without key s xs) (x ∷ without key s xs)) ≤ weight (test x) + counted test xs) [ true ↦ omega (arith, rest) | false ↦ omega (arith, rest) ]

    -- the record with the key s passes
    abbrev pub passes : ℕ → List X → Bool
    passes s xs = given (find key s xs) false test

    -- the change of a record that passes, after which it does not
    pub counted_ended : (f : X → X) → Ends f → (s : ℕ) (xs : List X) → passes s xs ≡ true → counted test (change key f s xs) + 1 ≤ counted test xs
    unfolding counted
    counted_ended f none s [] h = absurd (false≢true h)
    counted_ended f none s (x ∷ xs) h = elim (cases_Bool (eqb (key x) s)) [
      | inl e ↦
          let t : test x ≡ true = rw e at h in
          let rest = counted_change f (ends_gains_none f none) s xs in
          rw (e, t, none x) (omega (arith, rest))
      | inr e ↦
          let rest = counted_ended f none s xs (rw e at h) in
          rw e (omega (arith, rest))
    ]

    passing : (o : Option X) → given o false test ≡ true → (x : X) × (o ≡ Some x) × (test x ≡ true)
    passing None h = absurd (false≢true h)
    passing (Some x) h = (x, refl, h)

    -- a change that does not touch the test, at any key
    pub passes_change : (f : X → X) → ((x : X) → key (f x) ≡ key x) → Keeps f → (p s : ℕ) (xs : List X) → passes s xs ≡ true → passes s (change key f p xs) ≡ true
    passes_change f keys same p s xs h =
        let found = passing (find key s xs) h in
        let now = find_change key f keys p s xs ∙ ap (option_map (on key p f)) found.1 in
        ap (λ (o : Option X). given o false test) now ∙ (on_same key test f same p found.0 ∙ found.2)

    pub passes_push : (s : ℕ) (xs : List X) (y : X) → passes s xs ≡ true → passes s (xs ++ y ∷ []) ≡ true
    passes_push s xs y h =
        let found = passing (find key s xs) h in
        ap (λ (o : Option X). given o false test) (find_push_old key s xs y found.0 found.1) ∙ found.2
