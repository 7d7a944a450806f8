-- A word is read as a number exactly if it writes one that fits. Assumes nothing.
use Rattle.std.proofs.Common.{◌≡◌, ℕ, ◌-◌, ◌^◌, ◌<◌, ◌≤◌, Bool, true, false, ◌&&◌, leb, List, ℤ, pos, neg_ℤ, ◌≤ℤ◌, ◌<ℤ◌, Some, None, sym, refl, ap, ◌∙◌, subst, arith, pow_pos}
use Rattle.std.specs.Option.{option_map}
use Rattle.std.proofs.lemmas.Int.{ints}
use Rattle.std.proofs.lemmas.Bool.{leb-true, le-leb, and_parts, and_from, cond-true}
use Rattle.tokens.specs.Numbers.{is_numeral, value, has_minus, after_minus, with_sign, farthest, numeral_up_to, natural_of, integer_of}
use Rattle.grammar.specs.Reads.{Writes, WritesSigned}
use Rattle.grammar.proofs.Cases.{cond_some, mapped_some}

-- the word writes the number n in digits, and n is at most the given one
abbrev WritesUpTo : ℕ → ℕ → List ℕ → Type 0
WritesUpTo most n w = (is_numeral w ≡ true) × (value w ≡ n) × (n ≤ most)

numeral_up_to_writes : (most n : ℕ) (w : List ℕ) → numeral_up_to most w ≡ Some n → WritesUpTo most n w
numeral_up_to_writes most n w h =
    let is = cond_some (is_numeral w && leb (value w) most) (value w) n h in
    let both = and_parts (is_numeral w) (leb (value w) most) is.0 in
    (both.0, is.1, subst (λ x. x ≤ most) is.1 (leb-true (value w) most both.1))

writes_numeral_up_to : (most n : ℕ) (w : List ℕ) → WritesUpTo most n w → numeral_up_to most w ≡ Some n
writes_numeral_up_to most n w h =
    let fits = le-leb (value w) most (subst (λ x. x ≤ most) (sym h.1) h.2) in
    cond-true (is_numeral w && leb (value w) most) (Some (value w)) None (and_from (is_numeral w) (leb (value w) most) h.0 fits) ∙ ap (λ x. Some x) h.1

pub natural_of_writes : (bits n : ℕ) (w : List ℕ) → natural_of bits w ≡ Some n → Writes bits n w
natural_of_writes bits n w h =
    let is = numeral_up_to_writes (2 ^ bits - 1) n w h in
    (is.0, is.1, omega (arith, is.2, pow_pos bits))

pub writes_natural_of : (bits n : ℕ) (w : List ℕ) → Writes bits n w → natural_of bits w ≡ Some n
writes_natural_of bits n w h = writes_numeral_up_to (2 ^ bits - 1) n w (h.0, h.1, omega (arith, h.2))

-- a magnitude beside a sign stands within the bounds of a signed number
within_signed : (minus : Bool) (n half : ℕ) → 0 < half → n ≤ farthest minus (half - 1) → (neg_ℤ (pos half) ≤ℤ with_sign minus n) × (with_sign minus n <ℤ pos half)
within_signed true n half p h = (omega (arith, ints), omega (arith, ints))
within_signed false n half p h = (omega (arith, ints), omega (arith, ints))

signed_within : (minus : Bool) (n half : ℕ) → neg_ℤ (pos half) ≤ℤ with_sign minus n → with_sign minus n <ℤ pos half → n ≤ farthest minus (half - 1)
signed_within true n half l u = omega (arith, ints)
signed_within false n half l u = omega (arith, ints)

pub integer_of_writes : (bits : ℕ) (z : ℤ) (w : List ℕ) → integer_of bits w ≡ Some z → WritesSigned bits z w
integer_of_writes bits z w h =
    let half = 2 ^ (bits - 1) in
    let is = mapped_some (with_sign (has_minus w)) (numeral_up_to (farthest (has_minus w) (half - 1)) (after_minus w)) z h in
    let writes = numeral_up_to_writes (farthest (has_minus w) (half - 1)) is.0 (after_minus w) is.1 in
    let fits = within_signed (has_minus w) is.0 half (pow_pos (bits - 1)) writes.2 in
    let same : with_sign (has_minus w) is.0 ≡ z = sym is.2 in
    (writes.0, ap (with_sign (has_minus w)) writes.1 ∙ same, subst (λ x. neg_ℤ (pos half) ≤ℤ x) same fits.0, subst (λ x. x <ℤ pos half) same fits.1)

pub writes_integer_of : (bits : ℕ) (z : ℤ) (w : List ℕ) → WritesSigned bits z w → integer_of bits w ≡ Some z
writes_integer_of bits z w h =
    let half = 2 ^ (bits - 1) in
    let n = value (after_minus w) in
    let low = subst (λ x. neg_ℤ (pos half) ≤ℤ x) (sym h.1) h.2 in
    let high = subst (λ x. x <ℤ pos half) (sym h.1) h.3 in
    ap (option_map (with_sign (has_minus w))) (writes_numeral_up_to (farthest (has_minus w) (half - 1)) n (after_minus w) (h.0, refl, signed_within (has_minus w) n half low high))
    ∙ ap (λ x. Some x) h.1
