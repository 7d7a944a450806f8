-- A loop that gathers the children of a node from its links.
use Rattle.std.proofs.Common.{◌≡◌, ℕ, suc, eqb, ◌+◌, ◌<◌, true, false, cond, not, List, [], ◌∷◌, ◌++◌, length, get_or, take, filter, refl, ap, ◌∙◌, arith}
use Rattle.std.proofs.lemmas.List.{take_more}
use Rattle.links.specs.declared.Link.{Link}
use Rattle.links.specs.Link.{from, elsewhere, children}

pub children_append : (p : ℕ) (xs ys : List Link) → children p (xs ++ ys) ≡ children p xs ++ children p ys
children_append p [] ys = refl
children_append p (x ∷ xs) ys =
    let rest = children_append p xs ys in
    elim (from p x) as (λ b. cond b (x.child ∷ children p (xs ++ ys)) (children p (xs ++ ys)) ≡ cond b (x.child ∷ children p xs) (children p xs) ++ children p ys) [ true ↦ ap (λ (l : List ℕ). x.child ∷ l) rest | false ↦ rest ]

-- each link starts at p and is gathered, or starts elsewhere
pub children_count : (p : ℕ) (ls : List Link) → length (children p ls) + length (filter (elsewhere p) ls) ≡ length ls
children_count p [] = refl
children_count p (l ∷ ls) =
    let rest = children_count p ls in
    elim (from p l) as (λ b. length (cond b (l.child ∷ children p ls) (children p ls)) + length (cond (not b) (l ∷ filter (elsewhere p) ls) (filter (elsewhere p) ls)) ≡ suc (length ls)) [ true ↦ omega arith | false ↦ omega arith ]

-- one more link, as at a turn of the loop
pub children_more : (p : ℕ) (xs : List Link) (i : ℕ) (d : Link) → i < length xs → children p (take (i + 1) xs) ≡ children p (take i xs) ++ cond (eqb (get_or xs i d).parent p) ((get_or xs i d).child ∷ []) []
children_more p xs i d h = ap (children p) (take_more xs i d h) ∙ children_append p (take i xs) (get_or xs i d ∷ [])
