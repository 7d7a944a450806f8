-- What is written of a number is a number, and a word without LF.
use Rattle.std.proofs.Common.{◌≡◌, ℕ, suc, ◌^◌, ◌<◌, true, false, not, eqb, leb, List, [], ◌∷◌, length, ℤ, pos, negsuc, decimal, refl, arith, ltb→lt, leb→le, rules}
use lib.Signed.{mag}
use Rattle.std.proofs.lemmas.Fmt.{digits_decimal, digits_value-decimal, decimal_nonempty}
use Rattle.std.proofs.lemmas.Str.Parse.{IsNumeralModel, numerals_by_fold}
use Rattle.std.proofs.lemmas.Bool.{and_parts, and_from, leb-true, ne_eqb}
use Rattle.std.specs.Fmt.{signed_decimal}
use Rattle.tokens.specs.Numbers.{is_digit, all_digits, is_empty, is_numeral, read_on, value, has_minus, after_minus, is_number, with_sign}
use Rattle.tokens.specs.Tokens.{ends_word, all_plain}
use Rattle.grammar.specs.Reads.{no_break, Writes, WritesSigned}
use Rattle.grammar.specs.Spellable.{Fits, FitsSigned, IsName}

-- the digits and the value here are those that the library speaks of
pub own : IsNumeralModel (λ ds. all_digits ds ≡ true) value
own = numerals_by_fold _ (search rules) read_on (search rules)

-- a digit is none of the bytes that end a word, a line or begin a negative number
digit_is_not : (b c : ℕ) → c < 48 → is_digit b ≡ true → eqb b c ≡ false
digit_is_not b c low d = ne_eqb b c (λ e. omega (arith, leb-true 48 b (and_parts (leb 48 b) (leb b 57) d).0))

ends_word_digit : (b : ℕ) → is_digit b ≡ true → not (ends_word b) ≡ true
ends_word_digit b d = rw (digit_is_not b 32 (omega arith) d, digit_is_not b 40 (omega arith) d, digit_is_not b 41 (omega arith) d)

all_plain_digits : (ds : List ℕ) → all_digits ds ≡ true → all_plain ds ≡ true
all_plain_digits [] h = refl
all_plain_digits (b ∷ ds) h =
    let both = and_parts (is_digit b) (all_digits ds) h in
    and_from (not (ends_word b)) (all_plain ds) (ends_word_digit b both.0) (all_plain_digits ds both.1)

no_break_digits : (ds : List ℕ) → all_digits ds ≡ true → no_break ds ≡ true
unfolding no_break
no_break_digits [] h = refl
no_break_digits (b ∷ ds) h =
    let both = and_parts (is_digit b) (all_digits ds) h in
    rw (digit_is_not b 10 (omega arith) both.0) (no_break_digits ds both.1)

after_minus_digits : (ds : List ℕ) → all_digits ds ≡ true → after_minus ds ≡ ds
after_minus_digits [] h = refl
after_minus_digits (b ∷ ds) h = rw (digit_is_not b 45 (omega arith) (and_parts (is_digit b) (all_digits ds) h).0)

has_minus_digits : (ds : List ℕ) → all_digits ds ≡ true → has_minus ds ≡ false
has_minus_digits [] h = refl
has_minus_digits (b ∷ ds) h = digit_is_not b 45 (omega arith) (and_parts (is_digit b) (all_digits ds) h).0

is_empty_some : (bs : List ℕ) → 0 < length bs → not (is_empty bs) ≡ true
is_empty_some [] h = absurd (omega arith)
is_empty_some (b ∷ bs) h = refl

module _ (n : ℕ) (fits : n < 2 ^ 64) where
  pub all_digits_decimal : all_digits (decimal n) ≡ true
  all_digits_decimal = digits_decimal own n fits

  pub value_of_decimal : value (decimal n) ≡ n
  value_of_decimal = digits_value-decimal own n fits

  is_empty_decimal : not (is_empty (decimal n)) ≡ true
  is_empty_decimal = is_empty_some (decimal n) (decimal_nonempty n fits)

  pub is_numeral_decimal : is_numeral (decimal n) ≡ true
  is_numeral_decimal = and_from (not (is_empty (decimal n))) (all_digits (decimal n)) is_empty_decimal all_digits_decimal

  pub is_number_decimal : is_number (decimal n) ≡ true
  is_number_decimal = rw (after_minus_digits (decimal n) all_digits_decimal) is_numeral_decimal

  pub is_name_decimal : IsName (decimal n)
  is_name_decimal = (and_from (not (is_empty (decimal n))) (all_plain (decimal n)) is_empty_decimal (all_plain_digits (decimal n) all_digits_decimal), no_break_digits (decimal n) all_digits_decimal)

  pub writes_decimal : (bits : ℕ) → Fits bits n → Writes bits n (decimal n)
  writes_decimal bits small = (is_numeral_decimal, value_of_decimal, small)

-- what is written of a whole number is a name, and a number that has its value
pub record Signed (z : ℤ) : Type 0 where
  pub reads_as_number : is_number (signed_decimal z) ≡ true
  pub has_value : with_sign (has_minus (signed_decimal z)) (value (after_minus (signed_decimal z))) ≡ z
  pub is_name : IsName (signed_decimal z)

is_name_minus : (w : List ℕ) → IsName w → IsName (45 ∷ w)
unfolding no_break
is_name_minus w h = ((and_parts (not (is_empty w)) (all_plain w) h.0).1, h.1)

signed_written : (z : ℤ) → mag z < 2 ^ 63 → Signed z
signed_written (pos n) h =
    let fits : n < 2 ^ 64 = omega arith in
    record {
      reads_as_number = is_number_decimal n fits;
      has_value = rw (has_minus_digits (decimal n) (all_digits_decimal n fits), after_minus_digits (decimal n) (all_digits_decimal n fits), value_of_decimal n fits);
      is_name = is_name_decimal n fits;
    }
signed_written (negsuc n) h =
    let fits : suc n < 2 ^ 64 = omega arith in
    record {
      reads_as_number = is_numeral_decimal (suc n) fits;
      has_value = rw (value_of_decimal (suc n) fits);
      is_name = is_name_minus (decimal (suc n)) (is_name_decimal (suc n) fits);
    }

pub mag_fits_64 : (z : ℤ) → FitsSigned 64 z → mag z < 2 ^ 63
mag_fits_64 (pos n) h = omega (arith, ltb→lt)
mag_fits_64 (negsuc n) h = omega (arith, leb→le)

pub mag_fits_32 : (z : ℤ) → FitsSigned 32 z → mag z < 2 ^ 63
mag_fits_32 (pos n) h = omega (arith, ltb→lt)
mag_fits_32 (negsuc n) h = omega (arith, leb→le)

pub signed_fits_64 : (z : ℤ) → FitsSigned 64 z → Signed z
signed_fits_64 z h = signed_written z (mag_fits_64 z h)

pub signed_fits_32 : (z : ℤ) → FitsSigned 32 z → Signed z
signed_fits_32 z h = signed_written z (mag_fits_32 z h)

pub writes_signed : (bits : ℕ) (z : ℤ) → Signed z → FitsSigned bits z → WritesSigned bits z (signed_decimal z)
writes_signed bits z s h = (s.reads_as_number, s.has_value, h.0, h.1)
