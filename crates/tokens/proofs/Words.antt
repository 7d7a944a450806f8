-- Whether a word looks like a number, in the words of std's calls. Assumes nothing.
use Rattle.std.proofs.Common.{◌≡◌, ℕ, ◌+◌, Bool, true, false, cond, ◌&&◌, eqb, List, [], ◌∷◌, length, take, drop, Some, None, Option, sym, refl, ap, ◌∙◌, arith}
use Rattle.std.specs.Borrow.{Bor}
use Rattle.std.specs.Cmp.Lexicographic.{pointwise}
use Rattle.std.specs.List.{list_all}
use Rattle.std.specs.Option.{MatchOption, unwrap_or}
use Rattle.std.proofs.lemmas.Bool.{false≢true}
use Rattle.tokens.specs.Numbers.{is_digit, all_digits, is_numeral, after_minus}

-- where there are bytes, digits alone write a number
pub some_digits : (ds : List ℕ) → false ≡ eqb (length ds) 0 → all_digits ds ≡ is_numeral ds
some_digits [] some = absurd (false≢true some)
some_digits (d ∷ ds) some = refl

-- the bytes behind a minus sign that was stripped, or all of them
pub stripped : (bs : List ℕ) (r : Option (Bor (List ℕ))) (whole digits : Bor (List ℕ)) → MatchOption r (pointwise eqb (take 1 bs) (45 ∷ []) ≡ false) (λ x. (pointwise eqb (take 1 bs) (45 ∷ []) ≡ true) × (x.now ≡ drop 1 bs) × (length x.now + 1 ≡ length bs)) → whole.now ≡ bs → digits ≡ unwrap_or r whole → digits.now ≡ after_minus bs
stripped [] None whole digits cut is same = ap (λ d. d.now) same ∙ is
stripped (b ∷ bs) None whole digits cut is same = let no : eqb b 45 ≡ false = grind arith in ap (λ d. d.now) same ∙ is ∙ ap (λ (t : Bool). cond t bs (b ∷ bs)) (sym no)
stripped [] (Some x) whole digits cut is same = absurd (grind arith)
stripped (b ∷ bs) (Some x) whole digits cut is same = let yes : eqb b 45 ≡ true = grind arith in ap (λ d. d.now) same ∙ cut.1 ∙ ap (λ (t : Bool). cond t bs (b ∷ bs)) (sym yes)

-- whether all are digits, in std's word
pub all_digits_all : (bs : List ℕ) → list_all is_digit bs ≡ all_digits bs
all_digits_all [] = refl
all_digits_all (b ∷ bs) = ap (λ (t : Bool). is_digit b && t) (all_digits_all bs)
