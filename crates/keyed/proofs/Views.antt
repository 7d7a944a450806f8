-- A list of records, seen in the list that a function makes of it, which has the same keys.
use Rattle.std.proofs.Common.{◌≡◌, ℕ, suc, true, false, cond, ◌&&◌, eqb, leb, List, [], ◌∷◌, map, Some, sym, refl, ap, ◌∙◌}
use Rattle.std.specs.Option.{option_map}
use Rattle.keyed.specs.Keyed.{ordered, find, change, without}
use Rattle.keyed.proofs.Finds.{find_key, change_found}

-- f makes an element of the other list of each, whose key there is the same
module _ {X Y : Type 0} (f : X → Y) (key : X → ℕ) (by : Y → ℕ) (same : (x : X) → by (f x) ≡ key x) where
  pub find_view : (k : ℕ) (xs : List X) → find by k (map f xs) ≡ option_map f (find key k xs)
  find_view k [] = refl
  find_view k (x ∷ xs) =
      let rest = find_view k xs in
      rw (same x) (elim (eqb (key x) k) as (λ b. cond b (Some (f x)) (find by k (map f xs)) ≡ option_map f (cond b (Some x) (find key k xs))) [ true ↦ refl | false ↦ rest ])

  pub ordered_view : (lo hi : ℕ) (xs : List X) → ordered by lo hi (map f xs) ≡ ordered key lo hi xs
  ordered_view lo hi [] = refl
  ordered_view lo hi (x ∷ xs) = rw (same x) (ap (λ b. leb lo (key x) && b) (ordered_view (suc (key x)) hi xs))

  pub without_view : (k : ℕ) (xs : List X) → map f (without key k xs) ≡ without by k (map f xs)
  without_view k [] = refl
  without_view k (x ∷ xs) =
      let rest = without_view k xs in
      rw (same x) (elim (eqb (key x) k) as (λ b. map f (cond b (without key k xs) (x ∷ without key k xs)) ≡ cond b (without by k (map f xs)) (f x ∷ without by k (map f xs))) [ true ↦ rest | false ↦ ap (λ (l : List Y). f x ∷ l) rest ])

  -- h at a record is seen as g
  pub change_view : (h : X → X) (g : Y → Y) → ((x : X) → f (h x) ≡ g (f x)) → (k : ℕ) (xs : List X) → map f (change key h k xs) ≡ change by g k (map f xs)
  change_view h g made k [] = refl
  change_view h g made k (x ∷ xs) =
      let rest = change_view h g made k xs in
      rw (same x) (elim (eqb (key x) k) as (λ b. f (cond b (h x) x) ∷ map f (change key h k xs) ≡ cond b (g (f x)) (f x) ∷ change by g k (map f xs)) [ true ↦ rw (made x) (ap (λ (l : List Y). g (f x) ∷ l) rest) | false ↦ ap (λ (l : List Y). f x ∷ l) rest ])

  -- x, which the key k finds, is put back as y, which is seen as g of what was seen
  pub put_view : (g : Y → Y) → ((z : Y) → by (g z) ≡ by z) → (lo hi k : ℕ) (xs ys : List X) (x y : X) → ordered key lo hi xs ≡ true → find key k xs ≡ Some x → f y ≡ g (f x) → ys ≡ change key (λ _. y) (key y) xs → map f ys ≡ change by g k (map f xs)
  put_view g keeps lo hi k xs ys x y o h made is =
      let kept : key y ≡ k = sym (same y) ∙ (ap by made ∙ (keeps (f x) ∙ (same x ∙ find_key key k xs x h))) in
      let seen : find by k (map f xs) ≡ Some (f x) = find_view k xs ∙ ap (option_map f) h in
      ap (map f) (is ∙ ap (λ s. change key (λ _. y) s xs) kept)
      ∙ (change_view (λ _. y) (λ _. g (f x)) (λ _. made) k xs ∙ change_found by g lo hi k (map f xs) (f x) (ordered_view lo hi xs ∙ o) seen)
