-- What stands in a list that is joined, turned round or filtered.
use Rattle.std.proofs.Common.{◌≡◌, Bool, true, false, cond, ◌⊎◌, List, [], ◌∷◌, ◌++◌, reverse, filter, sym, ap, ◌∙◌, subst, inl, inr}
use mathlib.Core.List.{reverse-cons}
use Rattle.std.proofs.lemmas.Bool.{cases_Bool}
use Rattle.keyed.specs.Members.{In}

module _ {X : Type 0} where
  pub in_left : (x : X) (xs ys : List X) → In x xs → In x (xs ++ ys)
  in_left x [] ys h = absurd h
  in_left x (y ∷ xs) ys (inl e) = inl e
  in_left x (y ∷ xs) ys (inr h) = inr (in_left x xs ys h)

  pub in_right : (x : X) (xs ys : List X) → In x ys → In x (xs ++ ys)
  in_right x [] ys h = h
  in_right x (y ∷ xs) ys h = inr (in_right x xs ys h)

  pub in_parts : (x : X) (xs ys : List X) → In x (xs ++ ys) → In x xs ⊎ In x ys
  in_parts x [] ys h = inr h
  in_parts x (y ∷ xs) ys (inl e) = inl (inl e)
  in_parts x (y ∷ xs) ys (inr h) = elim (in_parts x xs ys h) [ inl a ↦ inl (inr a) | inr b ↦ inr b ]

  pub in_reverse : (x : X) (xs : List X) → In x xs → In x (reverse xs)
  in_reverse x [] h = absurd h
  in_reverse x (y ∷ xs) (inl e) = rw (reverse-cons y xs) (in_right x (reverse xs) (y ∷ []) (inl e))
  in_reverse x (y ∷ xs) (inr h) = rw (reverse-cons y xs) (in_left x (reverse xs) (y ∷ []) (in_reverse x xs h))

  pub in_unreverse : (x : X) (xs : List X) → In x (reverse xs) → In x xs
  in_unreverse x [] h = h
  in_unreverse x (y ∷ xs) h = elim (in_parts x (reverse xs) (y ∷ []) (subst (In x) (reverse-cons y xs) h)) [ inl a ↦ inr (in_unreverse x xs a) | inr b ↦ elim b [ inl e ↦ inl e | inr z ↦ absurd z ] ]

  pub in_kept : (test : X → Bool) (x : X) (xs : List X) → In x xs → test x ≡ true → In x (filter test xs)
  in_kept test x [] h t = absurd h
  in_kept test x (y ∷ xs) (inl e) t = let t' : test y ≡ true = ap test (sym e) ∙ t in rw t' (inl e)
  in_kept test x (y ∷ xs) (inr h) t =
      let rest = in_kept test x xs h t in
      elim (test y) as (λ b. In x (cond b (y ∷ filter test xs) (filter test xs))) [ true ↦ inr rest | false ↦ rest ]

  pub in_unkept : (test : X → Bool) (x : X) (xs : List X) → In x (filter test xs) → In x xs
  in_unkept test x [] h = h
  in_unkept test x (y ∷ xs) h = elim (test y) as (λ b. In x (cond b (y ∷ filter test xs) (filter test xs)) → (x ≡ y) ⊎ In x xs) [ true ↦ (λ g. elim g [ inl e ↦ inl e | inr r ↦ inr (in_unkept test x xs r) ]) | false ↦ (λ g. inr (in_unkept test x xs g)) ] h

  -- what a filter keeps passes its test
  pub kept_passes : (test : X → Bool) (x : X) (xs : List X) → In x (filter test xs) → test x ≡ true
  kept_passes test x [] h = absurd h
  kept_passes test x (y ∷ xs) h = elim (cases_Bool (test y)) [
    | inl e ↦ elim (subst (λ b. In x (cond b (y ∷ filter test xs) (filter test xs))) e h) [ inl same ↦ ap test same ∙ e | inr r ↦ kept_passes test x xs r ]
    | inr e ↦ kept_passes test x xs (subst (λ b. In x (cond b (y ∷ filter test xs) (filter test xs))) e h)
  ]
