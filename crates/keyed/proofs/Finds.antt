-- What a key finds after a change, a removal or one more at the end.
use Rattle.std.proofs.Common.{◌≡◌, ℕ, suc, ◌≤◌, true, false, cond, ◌||◌, eqb, ◌⊎◌, List, [], ◌∷◌, ◌++◌, length, Some, None, Option, sym, refl, ap, ◌∙◌, subst, inl, inr, arith}
use Rattle.std.proofs.lemmas.Bool.{ne_eqb, eq-eqb, eqb-true, cases_Bool, cases_eq, or_right}
use Rattle.std.specs.Option.{option_map}
use Rattle.keyed.specs.Keyed.{ordered, find, known, change, without}
use Rattle.keyed.specs.Members.{In}
use Rattle.keyed.proofs.Orders.{ordered_first, change_low, without_low, find_low}

-- a list that finds something is not one that finds nothing
pub some_not_none : {X : Type 0} {o : Option X} {x : X} → o ≡ None → o ≡ Some x → ⊥
some_not_none p q = let z : ◌≡◌ {A = ℕ} 0 1 = cc in omega arith

-- what is found is one
pub same_some : {X : Type 0} {o : Option X} {x y : X} → o ≡ Some x → o ≡ Some y → x ≡ y
same_some p q = cc

pub unmapped : {X Y : Type 0} (g : X → Y) (o : Option X) (y : Y) → option_map g o ≡ Some y → (x : X) × (o ≡ Some x) × (y ≡ g x)
unmapped g None y h = let z : ◌≡◌ {A = ℕ} 0 1 = cc in absurd (omega arith)
unmapped g (Some x) y h = (x, refl, cc)

module _ {X : Type 0} (key : X → ℕ) where
  -- f at the records with the key k, and nothing at the others
  abbrev pub on : ℕ → (X → X) → X → X
  on k f x = cond (eqb (key x) k) (f x) x

  pub find_key : (k : ℕ) (xs : List X) (x : X) → find key k xs ≡ Some x → key x ≡ k
  find_key k [] x h = absurd (some_not_none refl h)
  find_key k (y ∷ ys) x h = elim (cases_Bool (eqb (key y) k)) [
    | inl e ↦ (let is : y ≡ x = (let g = rw e at h in cc) in ap key (sym is) ∙ eqb-true (key y) k e)
    | inr e ↦ find_key k ys x (rw e at h)
  ]

  pub known_some : (k : ℕ) (xs : List X) (x : X) → find key k xs ≡ Some x → known key k xs ≡ true
  known_some k [] x h = absurd (some_not_none refl h)
  known_some k (y ∷ ys) x h = elim (cases_Bool (eqb (key y) k)) [ inl e ↦ rw e refl | inr e ↦ or_right (eqb (key y) k) (known key k ys) (known_some k ys x (rw e at h)) ]

  pub find_change : (f : X → X) → ((x : X) → key (f x) ≡ key x) → (s k : ℕ) (xs : List X) → find key k (change key f s xs) ≡ option_map (on s f) (find key k xs)
  find_change f same s k [] = refl
  find_change f same s k (x ∷ xs) =
      let e : key (on s f x) ≡ key x = elim (eqb (key x) s) as (λ b. key (cond b (f x) x) ≡ key x) [ true ↦ same x | false ↦ refl ] in
      let rest = find_change f same s k xs in
      rw e (elim (eqb (key x) k) as (λ b. cond b (Some (on s f x)) (find key k (change key f s xs)) ≡ option_map (on s f) (cond b (Some x) (find key k xs))) [ true ↦ refl | false ↦ rest ])

  pub find_change_some : (f : X → X) → ((x : X) → key (f x) ≡ key x) → (s k : ℕ) (xs : List X) (x : X) → find key k xs ≡ Some x → find key k (change key f s xs) ≡ Some (on s f x)
  find_change_some f same s k xs x h = find_change f same s k xs ∙ ap (option_map (on s f)) h

  pub find_change_here : (f : X → X) → ((x : X) → key (f x) ≡ key x) → (s : ℕ) (xs : List X) (x : X) → find key s xs ≡ Some x → find key s (change key f s xs) ≡ Some (f x)
  find_change_here f same s xs x h = find_change_some f same s s xs x h ∙ ap Some (rw (eq-eqb (key x) s (find_key s xs x h)) refl)

  pub find_change_other : (f : X → X) → ((x : X) → key (f x) ≡ key x) → (s k : ℕ) (xs : List X) → (k ≡ s → ⊥) → find key k (change key f s xs) ≡ find key k xs
  find_change_other f same s k [] apart = refl
  find_change_other f same s k (x ∷ xs) apart =
      let rest = find_change_other f same s k xs apart in
      elim (cases_Bool (eqb (key x) s)) [
        | inl e ↦
            let off : eqb (key x) k ≡ false = ne_eqb (key x) k (λ z. apart (sym z ∙ eqb-true (key x) s e)) in
            let off' : eqb (key (f x)) k ≡ false = ap (λ n. eqb n k) (same x) ∙ off in
            rw e (rw (off, off') rest)
        | inr e ↦ rw e (ap (λ (r : Option X). cond (eqb (key x) k) (Some x) r) rest)
      ]

  pub known_change : (f : X → X) → ((x : X) → key (f x) ≡ key x) → (s k : ℕ) (xs : List X) → known key k (change key f s xs) ≡ known key k xs
  known_change f same s k [] = refl
  known_change f same s k (x ∷ xs) =
      let e : key (on s f x) ≡ key x = elim (eqb (key x) s) as (λ b. key (cond b (f x) x) ≡ key x) [ true ↦ same x | false ↦ refl ] in
      rw e (ap (λ b. eqb (key x) k || b) (known_change f same s k xs))

  pub length_change : (f : X → X) (k : ℕ) (xs : List X) → length (change key f k xs) ≡ length xs
  length_change f k [] = refl
  length_change f k (x ∷ xs) = ap suc (length_change f k xs)

  pub length_without : (k : ℕ) (xs : List X) → length (without key k xs) ≤ length xs
  length_without k [] = omega arith
  length_without k (x ∷ xs) =
      let rest = length_without k xs in
      elim (eqb (key x) k) as (λ b. length (cond b (without key k xs) (x ∷ without key k xs)) ≤ suc (length xs)) [ true ↦ omega arith | false ↦ omega arith ]

  pub find_without_here : (k : ℕ) (xs : List X) → find key k (without key k xs) ≡ None
  find_without_here k [] = refl
  find_without_here k (x ∷ xs) = elim (cases_Bool (eqb (key x) k)) [ inl e ↦ rw e (find_without_here k xs) | inr e ↦ rw e (rw e (find_without_here k xs)) ]

  pub find_without_other : (s k : ℕ) (xs : List X) → (k ≡ s → ⊥) → find key k (without key s xs) ≡ find key k xs
  find_without_other s k [] apart = refl
  find_without_other s k (x ∷ xs) apart =
      let rest = find_without_other s k xs apart in
      elim (cases_Bool (eqb (key x) s)) [
        | inl e ↦ rw e (rw (ne_eqb (key x) k (λ z. apart (sym z ∙ eqb-true (key x) s e))) rest)
        | inr e ↦ rw e (ap (λ (r : Option X). cond (eqb (key x) k) (Some x) r) rest)
      ]

  -- what is found after a removal was found before
  pub find_without : (s k : ℕ) (xs : List X) (x : X) → find key k (without key s xs) ≡ Some x → find key k xs ≡ Some x
  find_without s k xs x h = elim (cases_eq k s) [
    | inl e ↦ absurd (some_not_none (subst (λ z. find key z (without key s xs) ≡ None) (sym e) (find_without_here s xs)) h)
    | inr e ↦ sym (find_without_other s k xs e) ∙ h
  ]

  -- what is found with one more at the end was found before, or is that one
  pub find_push : (k : ℕ) (xs : List X) (y x : X) → find key k (xs ++ y ∷ []) ≡ Some x → (find key k xs ≡ Some x) ⊎ ((x ≡ y) × (key y ≡ k))
  find_push k [] y x h = elim (cases_Bool (eqb (key y) k)) [
    | inl e ↦ (let is : x ≡ y = (let g = rw e at h in cc) in inr (is, eqb-true (key y) k e))
    | inr e ↦ (let g = rw e at h in absurd (some_not_none refl g))
  ]
  find_push k (z ∷ zs) y x h =
      elim (eqb (key z) k) as (λ b. cond b (Some z) (find key k (zs ++ y ∷ [])) ≡ Some x → (cond b (Some z) (find key k zs) ≡ Some x) ⊎ ((x ≡ y) × (key y ≡ k))) [ true ↦ (λ g. inl g) | false ↦ (λ g. find_push k zs y x g) ] h

  pub find_push_old : (k : ℕ) (xs : List X) (y x : X) → find key k xs ≡ Some x → find key k (xs ++ y ∷ []) ≡ Some x
  find_push_old k [] y x h = absurd (some_not_none refl h)
  find_push_old k (z ∷ zs) y x h =
      elim (eqb (key z) k) as (λ b. cond b (Some z) (find key k zs) ≡ Some x → cond b (Some z) (find key k (zs ++ y ∷ [])) ≡ Some x) [ true ↦ (λ g. g) | false ↦ (λ g. find_push_old k zs y x g) ] h

  pub find_push_new : (k : ℕ) (xs : List X) (y : X) → find key k xs ≡ None → key y ≡ k → find key k (xs ++ y ∷ []) ≡ Some y
  find_push_new k [] y h e = rw (eq-eqb (key y) k e) refl
  find_push_new k (z ∷ zs) y h e = elim (cases_Bool (eqb (key z) k)) [
    | inl t ↦ (let g : Some z ≡ None = rw t at h in absurd (some_not_none g refl))
    | inr t ↦ rw t (find_push_new k zs y (rw t at h) e)
  ]

  -- a change of the one that was found is that change by key
  pub change_found : (f : X → X) (lo hi k : ℕ) (xs : List X) (x : X) → ordered key lo hi xs ≡ true → find key k xs ≡ Some x → change key (λ _. f x) k xs ≡ change key f k xs
  change_found f lo hi k [] x o h = refl
  change_found f lo hi k (y ∷ ys) x o h =
      let p = ordered_first key lo hi y ys o in
      elim (cases_Bool (eqb (key y) k)) [
        | inl e ↦
            let is : y ≡ x = (let g = rw e at h in cc) in
            let at_k = eqb-true (key y) k e in
            let here : change key (λ _. f x) k ys ≡ change key f k ys = change_low key (λ _. f x) (suc (key y)) hi k ys p.1 (omega arith) ∙ sym (change_low key f (suc (key y)) hi k ys p.1 (omega arith)) in
            rw e (ap (λ (z : X). f z ∷ change key (λ _. f x) k ys) (sym is) ∙ ap (λ (l : List X). f y ∷ l) here)
        | inr e ↦ rw e (ap (λ (l : List X). y ∷ l) (change_found f (suc (key y)) hi k ys x p.1 (rw e at h)))
      ]

  -- what stands in an ascending list is what its key finds
  pub in_find : (lo hi : ℕ) (xs : List X) (x : X) → ordered key lo hi xs ≡ true → In x xs → find key (key x) xs ≡ Some x
  in_find lo hi [] x o h = absurd h
  in_find lo hi (y ∷ ys) x o (inl e) = ap (λ n. cond (eqb (key y) n) (Some y) (find key n ys)) (ap key e) ∙ (rw (eq-eqb (key y) (key y) refl) (ap Some (sym e)))
  in_find lo hi (y ∷ ys) x o (inr h) =
      let p = ordered_first key lo hi y ys o in
      let rest = in_find (suc (key y)) hi ys x p.1 h in
      elim (cases_Bool (eqb (key y) (key x))) [
        | inl e ↦ absurd (some_not_none (find_low key (suc (key y)) hi (key x) ys p.1 (omega (arith, eqb-true (key y) (key x) e))) rest)
        | inr e ↦ rw e rest
      ]

  pub find_in : (k : ℕ) (xs : List X) (x : X) → find key k xs ≡ Some x → In x xs
  find_in k [] x h = absurd (some_not_none refl h)
  find_in k (y ∷ ys) x h = elim (cases_Bool (eqb (key y) k)) [
    | inl e ↦ (let is : x ≡ y = (let g = rw e at h in cc) in inl is)
    | inr e ↦ inr (find_in k ys x (rw e at h))
  ]

  -- where a key finds nothing, a change by it changes nothing
  pub change_missing : (f : X → X) (k : ℕ) (xs : List X) → find key k xs ≡ None → change key f k xs ≡ xs
  change_missing f k [] h = refl
  change_missing f k (y ∷ ys) h = elim (cases_Bool (eqb (key y) k)) [
    | inl e ↦ (let g : Some y ≡ None = rw e at h in absurd (some_not_none g refl))
    | inr e ↦ rw e (ap (λ (l : List X). y ∷ l) (change_missing f k ys (rw e at h)))
  ]

  -- the record that was found, changed and put in its place, is the change by key
  pub put_found : (f : X → X) (lo hi k : ℕ) (xs ys : List X) (x y : X) → ordered key lo hi xs ≡ true → find key k xs ≡ Some x → y ≡ f x → key (f x) ≡ key x → ys ≡ change key (λ _. y) (key y) xs → ys ≡ change key f k xs
  put_found f lo hi k xs ys x y o h made same is =
      is ∙ (ap (λ (z : X). change key (λ _. z) (key z) xs) made ∙ (ap (λ s. change key (λ _. f x) s xs) (same ∙ find_key k xs x h) ∙ change_found f lo hi k xs x o h))

  pub length_without_found : (lo hi k : ℕ) (xs : List X) (x : X) → ordered key lo hi xs ≡ true → find key k xs ≡ Some x → suc (length (without key k xs)) ≡ length xs
  length_without_found lo hi k [] x o h = absurd (some_not_none refl h)
  length_without_found lo hi k (y ∷ ys) x o h =
      let p = ordered_first key lo hi y ys o in
      elim (cases_Bool (eqb (key y) k)) [
        | inl e ↦ rw e (ap (λ (l : List X). suc (length l)) (without_low key (suc (key y)) hi k ys p.1 (omega (arith, eqb-true (key y) k e))))
        | inr e ↦ rw e (ap suc (length_without_found (suc (key y)) hi k ys x p.1 (rw e at h)))
      ]
