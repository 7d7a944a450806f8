-- Four bytes in hexadecimal digits.
use Rattle.std.proofs.Common.{◌≡◌, ℕ, ◌/◌, ◌%◌, List, [], ◌∷◌, length, get_or, refl, arith}
use Rattle.event_lines.specs.Told.{hex_digit, hex_of}

-- the two digits of the byte at a place, before some digits
abbrev digits_at : List ℕ → ℕ → List ℕ → List ℕ
digits_at bs i more = hex_digit (get_or bs i 0 / 16) ∷ hex_digit (get_or bs i 0 % 16) ∷ more

pub hex_of_four : (bs : List ℕ) → length bs ≡ 4 → hex_of bs ≡ digits_at bs 0 (digits_at bs 1 (digits_at bs 2 (digits_at bs 3 [])))
hex_of_four [] h = absurd (omega arith)
hex_of_four (a ∷ []) h = absurd (omega arith)
hex_of_four (a ∷ b ∷ []) h = absurd (omega arith)
hex_of_four (a ∷ b ∷ c ∷ []) h = absurd (omega arith)
hex_of_four (a ∷ b ∷ c ∷ d ∷ []) h = refl
hex_of_four (a ∷ b ∷ c ∷ d ∷ e ∷ more) h = absurd (omega arith)
