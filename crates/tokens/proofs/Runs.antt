-- A word at the front of some bytes, and the parts that the bytes fall into. Assumes nothing.
use Rattle.std.proofs.Common.{◌≡◌, ℕ, suc, ◌≤◌, Bool, true, false, cond, eqb, List, [], ◌∷◌, length, take, drop, is_some, unwrap_or, Some, None, Option, sym, refl, ap, ◌∙◌, one-add, arith}
use Rattle.std.specs.List.{position, position_or_len}
use Rattle.std.proofs.lemmas.Bool.{true≢false}
use Rattle.std.proofs.lemmas.Bool.Decides.{nat_tests}
use Rattle.std.proofs.lemmas.List.Recursion.{is_position_or_len}
use Rattle.tokens.specs.Tokens.{Part, left, right, space, run, separator, ends_word, word_length, joined, set_before, parts}

-- a word is no longer than the bytes
pub word_within : (xs : List ℕ) → word_length xs ≤ length xs
unfolding word_length
word_within [] = omega arith
word_within (b ∷ bs) = by (ends_word b) (word_within bs)
  where
    by : (t : Bool) → word_length bs ≤ length bs → cond t 0 (suc (word_length bs)) ≤ length (b ∷ bs)
    by true h = omega arith
    by false h = omega arith

word_first : (xs : List ℕ) → word_length xs ≡ position_or_len ends_word xs
unfolding word_length
word_first xs = is_position_or_len word_length ends_word refl (λ b bs. ap (cond (ends_word b) 0) (sym (one-add (word_length bs)))) xs

-- a word ends at the first byte that ends a word, or goes on to the end
pub word_ends : (xs : List ℕ) (r : Option ℕ) → r ≡ position ends_word xs → unwrap_or r (length xs) ≡ word_length xs
word_ends xs None is = let first = word_first xs in let within = word_within xs in grind (arith, nat_tests)
word_ends xs (Some n) is = let first = word_first xs in grind (arith, nat_tests)

-- no separator is a run
abbrev is_run : Option Part → Bool
is_run None = false
is_run (Some left) = false
is_run (Some right) = false
is_run (Some space) = false
is_run (Some (run w)) = true

separator_no_run : (b : ℕ) → is_run (separator b) ≡ false
separator_no_run b = by (eqb b 32) (eqb b 40) (eqb b 41)
  where
    by : (t u v : Bool) → is_run (cond t (Some space) (cond u (Some left) (cond v (Some right) None))) ≡ false
    by true u v = refl
    by false true v = refl
    by false false true = refl
    by false false false = refl

-- a byte of a word joins the run that follows it, up to where the word ends
joins : (b c n : ℕ) (bs : List ℕ) (o : Option Part) → separator c ≡ o
    → (separator c ≡ None → parts (c ∷ bs) ≡ run (c ∷ take n bs) ∷ parts (drop n bs))
    → joined b (set_before o c (parts bs)) ≡ run (b ∷ take (cond (is_some o) 0 (suc n)) (c ∷ bs)) ∷ parts (drop (cond (is_some o) 0 (suc n)) (c ∷ bs))
unfolding parts
joins b c n bs (Some left) is more = ap (λ (o : Option Part). run (b ∷ []) ∷ set_before o c (parts bs)) (sym is)
joins b c n bs (Some right) is more = ap (λ (o : Option Part). run (b ∷ []) ∷ set_before o c (parts bs)) (sym is)
joins b c n bs (Some space) is more = ap (λ (o : Option Part). run (b ∷ []) ∷ set_before o c (parts bs)) (sym is)
joins b c n bs (Some (run w)) is more = absurd (true≢false (sym (ap is_run is) ∙ separator_no_run c))
joins b c n bs None is more = ap (joined b) (ap (λ (o : Option Part). set_before o c (parts bs)) (sym is) ∙ more is)

-- a byte of a word starts a run that ends where the word ends
parts_run : (b : ℕ) (bs : List ℕ) → separator b ≡ None → parts (b ∷ bs) ≡ run (b ∷ take (word_length bs) bs) ∷ parts (drop (word_length bs) bs)
unfolding parts word_length
parts_run b [] e = ap (λ (o : Option Part). set_before o b []) e
parts_run b (c ∷ bs) e =
    ap (λ (o : Option Part). set_before o b (parts (c ∷ bs))) e ∙ joins b c (word_length bs) bs (separator c) refl (parts_run c bs)

-- the parts of bytes that a word begins
pub parts_word : (b : ℕ) (bs : List ℕ) → separator b ≡ None → parts (b ∷ bs) ≡ run (take (word_length (b ∷ bs)) (b ∷ bs)) ∷ parts (drop (word_length (b ∷ bs)) (b ∷ bs))
unfolding word_length
parts_word b bs e =
    parts_run b bs e
    ∙ ap (λ (o : Option Part). run (take (cond (is_some o) 0 (suc (word_length bs))) (b ∷ bs)) ∷ parts (drop (cond (is_some o) 0 (suc (word_length bs))) (b ∷ bs))) (sym e)
