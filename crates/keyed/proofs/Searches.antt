-- Whether some element of a list passes a test, and the first that does.
use Rattle.std.proofs.Common.{◌≡◌, Bool, true, false, ◌⊎◌, List, [], ◌∷◌, ◌++◌, Some, None, Option, filter, sym, refl, ap, ◌∙◌, inl, inr}
use Rattle.std.proofs.lemmas.Bool.{cases_Bool, or_left, or_right, or_cases, or_parts, or_from, false≢true}
use denote.Param.Members.{Mut}
use denote.Ref.{Bor}
use Rattle.std.specs.Fn.{Called, CalledAt}
use Rattle.std.specs.Iterator.{ChecksAny, FindsItem}
use Rattle.std.specs.Option.{option_copied}
use Rattle.std.specs.Slice.Iter.{iter_rest}
use Rattle.std.specs.declared.slice.Iter.{Iter}
use Rattle.std.proofs.iter.Yields.{fronts}
use Rattle.std.proofs.lemmas.Iterator.{YieldsList-from_slice}
use Rattle.std.proofs.lemmas.Iterator.Search.{any_from_yields_List, find_from_yields_List}
use Rattle.keyed.specs.Members.{In, any, first}
use Rattle.keyed.proofs.Finds.{some_not_none}
use Rattle.keyed.proofs.Members.{in_left, in_right, in_parts, in_kept, in_unkept}

-- what stands in a list and passes is seen by `any`, and the other way round
module _ {X : Type 0} (test : X → Bool) where
  pub any_in : (x : X) (xs : List X) → In x xs → test x ≡ true → any test xs ≡ true
  any_in x [] h t = absurd h
  any_in x (y ∷ ys) (inl e) t = or_left (test y) (any test ys) (ap test (sym e) ∙ t)
  any_in x (y ∷ ys) (inr h) t = or_right (test y) (any test ys) (any_in x ys h t)

  pub in_any : (xs : List X) → any test xs ≡ true → (x : X) × In x xs × (test x ≡ true)
  in_any [] h = absurd (false≢true h)
  in_any (y ∷ ys) h = elim (or_cases (test y) (any test ys) h) [
    | inl t ↦ (y, inl refl, t)
    | inr r ↦ (let g = in_any ys r in (g.0, inr g.1, g.2))
  ]

  pub not_any : (xs : List X) → any test xs ≡ false → (x : X) → In x xs → test x ≡ false
  not_any [] h x i = absurd i
  not_any (y ∷ ys) h x (inl e) = ap test e ∙ (or_parts (test y) (any test ys) h).0
  not_any (y ∷ ys) h x (inr i) = not_any ys (or_parts (test y) (any test ys) h).1 x i

  -- nothing passes where there is no first
  pub first_none : (xs : List X) → first test xs ≡ None → (x : X) → In x xs → test x ≡ false
  first_none [] h x i = absurd i
  first_none (y ∷ ys) h x i = elim (cases_Bool (test y)) [
    | inl t ↦ (let g : Some y ≡ None = rw t at h in absurd (some_not_none g refl))
    | inr t ↦ elim i [ inl e ↦ ap test e ∙ t | inr r ↦ first_none ys (rw t at h) x r ]
  ]

  pub first_in : (xs : List X) (x : X) → first test xs ≡ Some x → In x xs × (test x ≡ true)
  first_in [] x h = absurd (some_not_none refl h)
  first_in (y ∷ ys) x h = elim (cases_Bool (test y)) [
    | inl t ↦ (let is : x ≡ y = (let g = rw t at h in cc) in (inl is, ap test is ∙ t))
    | inr t ↦ (let g = first_in ys x (rw t at h) in (inr g.0, g.1))
  ]

  pub first_none_any : (xs : List X) → first test xs ≡ None → any test xs ≡ false
  first_none_any [] h = refl
  first_none_any (y ∷ ys) h = elim (cases_Bool (test y)) [
    | inl t ↦ (let g : Some y ≡ None = rw t at h in absurd (some_not_none g refl))
    | inr t ↦ or_from (test y) (any test ys) t (first_none_any ys (rw t at h))
  ]

  pub any_none_first : (xs : List X) → any test xs ≡ false → first test xs ≡ None
  any_none_first [] h = refl
  any_none_first (y ∷ ys) h =
      let p = or_parts (test y) (any test ys) h in
      rw p.0 (any_none_first ys p.1)

  pub none_any : (xs : List X) → ((x : X) → In x xs → test x ≡ false) → any test xs ≡ false
  none_any [] h = refl
  none_any (y ∷ ys) h = or_from (test y) (any test ys) (h y (inl refl)) (none_any ys (λ x i. h x (inr i)))

  pub any_left : (xs ys : List X) → any test xs ≡ true → any test (xs ++ ys) ≡ true
  any_left xs ys h = let w = in_any xs h in any_in w.0 (xs ++ ys) (in_left w.0 xs ys w.1) w.2

  pub any_right : (xs ys : List X) → any test ys ≡ true → any test (xs ++ ys) ≡ true
  any_right xs ys h = let w = in_any ys h in any_in w.0 (xs ++ ys) (in_right w.0 xs ys w.1) w.2

  pub any_parts : (xs ys : List X) → any test (xs ++ ys) ≡ true → (any test xs ≡ true) ⊎ (any test ys ≡ true)
  any_parts xs ys h =
      let w = in_any (xs ++ ys) h in
      elim (in_parts w.0 xs ys w.1) [ inl i ↦ inl (any_in w.0 xs i w.2) | inr i ↦ inr (any_in w.0 ys i w.2) ]

  -- a filter that keeps what passes
  pub any_kept : (keep : X → Bool) (xs : List X) → any test xs ≡ true → ((x : X) → test x ≡ true → keep x ≡ true) → any test (filter keep xs) ≡ true
  any_kept keep xs h keeps =
      let w = in_any xs h in
      any_in w.0 (filter keep xs) (in_kept keep w.0 xs w.1 (keeps w.0 w.2)) w.2

  pub any_unkept : (keep : X → Bool) (xs : List X) → any test (filter keep xs) ≡ true → any test xs ≡ true
  any_unkept keep xs h =
      let w = in_any (filter keep xs) h in
      any_in w.0 xs (in_unkept keep w.0 xs w.1) w.2

-- what the library's `any` and `find` answer over a slice
module _ {X : Type 0} (test : X → Bool) {F : Type 0} {s : Iter X} {xs : List X} (u : Iter X) (f : F) where
  pub any_answers : {g : Mut F (Bor X × Unit {0}) Bool} (r : Bool) → ChecksAny fronts g s f r u → iter_rest s ≡ xs
      → ((x : Bor X) (b : Bool) (q : F) → Called g f (x, tt) b q → (q ≡ f) × (b ≡ test x.now)) → r ≡ any test xs
  any_answers r ran over each = any_from_yields_List test u f r ran (YieldsList-from_slice xs over) each

  pub first_answers : {g : Mut F (Bor (Bor X) × Unit {0}) Bool} (r : Option (Bor X)) → FindsItem fronts g s f r u → iter_rest s ≡ xs
      → ((x : Bor X) (b : Bool) (q : F) → CalledAt g f x b q → (q ≡ f) × (b ≡ test x.now)) → option_copied r ≡ first test xs
  first_answers r ran over each = find_from_yields_List test u f r ran (YieldsList-from_slice xs over) each
