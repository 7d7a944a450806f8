-- Decimal numbers: which bytes write one, which number that is, and whether it fits a number of bits. Assumes nothing.
use Rattle.std.specs.Prelude.{ℕ, ◌+◌, ◌-◌, ◌*◌, ◌^◌, Bool, true, false, cond, not, ◌&&◌, List, [], ◌∷◌, ℤ, pos, neg_ℤ, Some, None, Option, ◌==◌, nat_le}
use Rattle.std.specs.Option.{option_map}

-- the byte is one of the ten digits
abbrev pub is_digit : ℕ → Bool
is_digit b = nat_le 48 b && nat_le b 57

-- each byte is a digit
abbrev pub all_digits : List ℕ → Bool
all_digits [] = true
all_digits (b ∷ bs) = is_digit b && all_digits bs

-- there are no bytes
abbrev pub is_empty : List ℕ → Bool
is_empty [] = true
is_empty (b ∷ bs) = false

-- the bytes are one digit or more, and nothing else
abbrev pub is_numeral : List ℕ → Bool
is_numeral bs = not (is_empty bs) && all_digits bs

-- the number that n becomes when the digits are written after it
abbrev pub read_on : ℕ → List ℕ → ℕ
read_on n [] = n
read_on n (b ∷ bs) = read_on (n * 10 + (b - 48)) bs

-- the number that the digits write; leading zeros are allowed and change nothing
abbrev pub value : List ℕ → ℕ
value bs = read_on 0 bs

-- a minus sign comes first
abbrev pub has_minus : List ℕ → Bool
has_minus [] = false
has_minus (b ∷ bs) = b == 45

-- the bytes without a minus sign that comes first
abbrev pub after_minus : List ℕ → List ℕ
after_minus [] = []
after_minus (b ∷ bs) = cond (b == 45) bs (b ∷ bs)

-- the bytes look like a number: digits, with or without a minus sign before them
abbrev pub is_number : List ℕ → Bool
is_number bs = is_numeral (after_minus bs)

-- the whole number that digits write after a sign
abbrev pub with_sign : Bool → ℕ → ℤ
with_sign minus n = cond minus (neg_ℤ (pos n)) (pos n)

-- the number that the bytes write, where they are digits and it is at most the given one
abbrev pub numeral_up_to : ℕ → List ℕ → Option ℕ
numeral_up_to most bs = cond (is_numeral bs && nat_le (value bs) most) (Some (value bs)) None

-- the largest magnitude beside a sign, where `most` is the largest without one: there is one negative number more
abbrev pub farthest : Bool → ℕ → ℕ
farthest minus most = cond minus (most + 1) most

-- the number that the bytes write with a minus sign or none, where it is from - most - 1 to most
abbrev pub integer_up_to : ℕ → List ℕ → Option ℤ
integer_up_to most bs = option_map (with_sign (has_minus bs)) (numeral_up_to (farthest (has_minus bs) most) (after_minus bs))

-- the unsigned number of so many bits that the bytes write
abbrev pub natural_of : ℕ → List ℕ → Option ℕ
natural_of bits bs = numeral_up_to (2 ^ bits - 1) bs

-- the signed number of so many bits that the bytes write
abbrev pub integer_of : ℕ → List ℕ → Option ℤ
integer_of bits bs = integer_up_to (2 ^ (bits - 1) - 1) bs
