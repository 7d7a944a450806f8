-- Where the first line of some bytes ends.
use Rattle.std.proofs.Common.{◌≡◌, ℕ, suc, ◌+◌, ◌-◌, ◌<◌, ◌≤◌, Bool, true, false, cond, not, eqb, List, [], ◌∷◌, length, take, drop, Some, None, Option, sym, refl, ap, ◌∙◌, add-one, one-add, arith}
use Rattle.std.specs.List.{position, prefix_len}
use Rattle.std.proofs.lemmas.Bool.Decides.{nat_tests}
use Rattle.std.proofs.lemmas.List.{take_rest}
use Rattle.lines.specs.Lines.{Text, led, text_of, unended, with_line}

-- the byte does not end a line
abbrev in_line : ℕ → Bool
in_line b = not (eqb b 10)

-- how long the first line is, by the test of its first byte
abbrev length_by : Bool → List ℕ → ℕ
length_by ends bs = cond (not ends) (1 + prefix_len in_line bs) 0

-- a text by the test of its first byte
abbrev begun_if : Bool → ℕ → Text → Text
begun_if ends b t = cond ends (with_line [] t) (led b t.lines t.rest)

unended_by : (ends : Bool) (b : ℕ) (bs : List ℕ) → length (b ∷ bs) ≤ length_by ends bs → (length bs ≤ prefix_len in_line bs → text_of bs ≡ unended bs) → begun_if ends b (text_of bs) ≡ unended (b ∷ bs)
unended_by true b bs long rest = absurd (omega arith)
unended_by false b bs long rest = ap (λ (t : Text). led b t.lines t.rest) (rest (omega arith))

-- bytes without LF end no line
text_of_unended : (bs : List ℕ) → length bs ≤ prefix_len in_line bs → text_of bs ≡ unended bs
unfolding text_of
text_of_unended [] long = refl
text_of_unended (b ∷ bs) long = unended_by (eqb b 10) b bs long (text_of_unended bs)

-- bytes cut at the LF that is at n
abbrev pub cut_at : ℕ → List ℕ → Text
cut_at n bs = with_line (take n bs) (text_of (drop (suc n) bs))

ended_by : (ends : Bool) (b : ℕ) (bs : List ℕ) → length_by ends bs < length (b ∷ bs) → (prefix_len in_line bs < length bs → text_of bs ≡ cut_at (prefix_len in_line bs) bs) → begun_if ends b (text_of bs) ≡ cut_at (length_by ends bs) (b ∷ bs)
ended_by true b bs short rest = refl
ended_by false b bs short rest =
    ap (λ (t : Text). led b t.lines t.rest) (rest (omega arith)) ∙ ap (λ (n : ℕ). cut_at n (b ∷ bs)) (sym (one-add (prefix_len in_line bs)))

-- the first line goes up to the first LF, and the rest follows it
text_of_ended : (bs : List ℕ) → prefix_len in_line bs < length bs → text_of bs ≡ cut_at (prefix_len in_line bs) bs
unfolding text_of
text_of_ended [] short = absurd (omega arith)
text_of_ended (b ∷ bs) short = ended_by (eqb b 10) b bs short (text_of_ended bs)

-- what the place of the first LF, if there is one, says of a text
abbrev pub Cut : List ℕ → Option ℕ → Type 0
Cut bs None = text_of bs ≡ unended bs
Cut bs (Some n) = text_of bs ≡ with_line (take n bs) (text_of (take (length bs - (n + 1)) (drop (n + 1) bs)))

pub text_of_cut : (bs : List ℕ) (r : Option ℕ) → r ≡ position (λ b. eqb b 10) bs → Cut bs r
text_of_cut bs None is = text_of_unended bs (grind (arith, nat_tests))
text_of_cut bs (Some n) is =
    let at : n ≡ prefix_len in_line bs = grind (arith, nat_tests) in
    rw (take_rest, add-one, at) (text_of_ended bs (grind (arith, nat_tests)))
