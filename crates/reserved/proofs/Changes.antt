-- A loop that changes each element of a list.
use Rattle.std.proofs.Common.{◌≡◌, ℕ, ◌+◌, ◌<◌, List, ◌∷◌, length, length-set, get_or, take, drop, set, ◌∙◌, arith}
use Rattle.std.specs.List.{AllZip}
use Rattle.std.proofs.lemmas.List.{take_more_set, drop-set-lt, drop_more}
use Rattle.std.proofs.lemmas.List.Elements.{all_zip_more}

module _ {X : Type 0} (R : X → X → Type 0) where
  -- the first i elements of xs were changed to those of ys, and the others are as they were
  pub record Changed (xs ys : List X) (i : ℕ) : Type 0 where
    pub front : AllZip R (take i xs) (take i ys)
    pub rest : drop i ys ≡ drop i xs
    pub long : length ys ≡ length xs

  pub changed_more : (xs ys : List X) (i : ℕ) (x y : X) → Changed xs ys i → i < length ys → x ≡ get_or ys i x → R x y → Changed xs (set ys i y) (i + 1)
  changed_more xs ys i x y so_far h read r =
      let h' : i < length xs = omega (arith, so_far.long) in
      let ends : get_or ys i x ∷ drop (i + 1) ys ≡ get_or xs i x ∷ drop (i + 1) xs = cc (so_far.rest, drop_more ys i x h, drop_more xs i x h') in
      let same : get_or ys i x ≡ get_or xs i x = cc in
      let rest : drop (i + 1) ys ≡ drop (i + 1) xs = cc in
      record {
        front = rw (take_more_set ys i y h) (all_zip_more R xs (take i ys) i x y h' (read ∙ same) so_far.front r);
        rest = drop-set-lt (i + 1) ys i y (omega arith) ∙ rest;
        long = length-set ys i y ∙ so_far.long;
      }
