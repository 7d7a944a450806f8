-- A list of records in which each is changed and keeps its key.
use Rattle.std.proofs.Common.{◌≡◌, ℕ, suc, Bool, true, false, cond, ◌&&◌, ◌||◌, eqb, leb, List, [], ◌∷◌, map, is_some, Some, None, Option, refl, ap, ◌∙◌}
use Rattle.std.specs.List.{AllZip}
use Rattle.std.specs.Option.{option_map}
use Rattle.std.proofs.lemmas.Bool.{false≢true}
use Rattle.keyed.specs.Keyed.{ordered, find, change}
use Rattle.keyed.specs.Members.{any}
use Rattle.keyed.proofs.Finds.{on}
use Rattle.keyed.proofs.Views.{find_view, ordered_view}

pub is_some_mapped : {X Y : Type 0} (g : X → Y) (o : Option X) → is_some (option_map g o) ≡ is_some o
is_some_mapped g None = refl
is_some_mapped g (Some x) = refl

pub is_some_is : {X : Type 0} (o : Option X) (x : X) → o ≡ Some x → is_some o ≡ true
is_some_is o x h = ap is_some h

pub some_is : {X : Type 0} (o : Option X) → is_some o ≡ true → (x : X) × (o ≡ Some x)
some_is None h = absurd (false≢true h)
some_is (Some x) h = (x, refl)

pub any_map : {X : Type 0} (test : X → Bool) (g : X → X) → ((x : X) → test (g x) ≡ test x) → (xs : List X) → any test (map g xs) ≡ any test xs
any_map test g same [] = refl
any_map test g same (x ∷ xs) = ap (λ b. b || any test (map g xs)) (same x) ∙ ap (λ b. test x || b) (any_map test g same xs)

module _ {X : Type 0} (key : X → ℕ) where
  pub change_map : (f : X → X) (s : ℕ) (xs : List X) → change key f s xs ≡ map (on key s f) xs
  change_map f s [] = refl
  change_map f s (x ∷ xs) = ap (λ (l : List X). on key s f x ∷ l) (change_map f s xs)

  -- what f leaves as it is, f at one key leaves so too
  pub on_same : {Y : Type 0} (field : X → Y) (f : X → X) → ((x : X) → field (f x) ≡ field x) → (s : ℕ) (x : X) → field (on key s f x) ≡ field x
  on_same field f same s x = elim (eqb (key x) s) as (λ b. field (cond b (f x) x) ≡ field x) [ true ↦ same x | false ↦ refl ]

  module _ (g : X → X) (same : (x : X) → key (g x) ≡ key x) where
    pub find_map : (k : ℕ) (xs : List X) → find key k (map g xs) ≡ option_map g (find key k xs)
    find_map = find_view g key key same

    pub ordered_map : (lo hi : ℕ) (xs : List X) → ordered key lo hi (map g xs) ≡ ordered key lo hi xs
    ordered_map = ordered_view g key key same

-- a list in which each element is changed by a step
module _ {X : Type 0} (R : X → X → Type 0) where
  -- what the step makes of an element is f of it
  pub zipped_map : (f : X → X) → ((x y : X) → R x y → y ≡ f x) → (xs ys : List X) → AllZip R xs ys → ys ≡ map f xs
  zipped_map f gives [] [] h = refl
  zipped_map f gives [] (y ∷ ys) h = absurd h
  zipped_map f gives (x ∷ xs) [] h = absurd h
  zipped_map f gives (x ∷ xs) (y ∷ ys) h = cc (gives x y h.0, zipped_map f gives xs ys h.1)

  -- the step leaves the key
  pub ordered_zipped : (key : X → ℕ) → ((x y : X) → R x y → key y ≡ key x) → (lo hi : ℕ) (xs ys : List X) → AllZip R xs ys → ordered key lo hi ys ≡ ordered key lo hi xs
  ordered_zipped key same lo hi [] [] h = refl
  ordered_zipped key same lo hi [] (y ∷ ys) h = absurd h
  ordered_zipped key same lo hi (x ∷ xs) [] h = absurd h
  ordered_zipped key same lo hi (x ∷ xs) (y ∷ ys) h = rw (same x y h.0) (ap (λ b. leb lo (key x) && b) (ordered_zipped key same (suc (key x)) hi xs ys h.1))
