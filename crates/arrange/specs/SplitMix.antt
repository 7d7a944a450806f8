-- SplitMix64 over natural numbers. Assumes nothing.
use Rattle.std.specs.Prelude.{ℕ, ◌+◌, ◌*◌, ◌/◌, ◌%◌, ◌^◌, bit_xor}
use Rattle.arrange.specs.Draws.{Drawn}

-- the low 64 bits of a number
abbrev pub low64 : ℕ → ℕ
low64 n = n % 2 ^ 64

-- a number joined by exclusive or with itself, moved down by some bits
abbrev pub folded_down : ℕ → ℕ → ℕ
folded_down bits z = bit_xor z (z / 2 ^ bits)

-- the low 64 bits of such a number's product with a multiplier
abbrev pub multiplied : ℕ → ℕ → ℕ → ℕ
multiplied bits multiplier z = low64 (folded_down bits z * multiplier)

-- the draw that a state gives
abbrev pub mixed : ℕ → ℕ
mixed s = folded_down 31 (multiplied 27 0x94d049bb133111eb (multiplied 30 0xbf58476d1ce4e5b9 s))

-- the state moves on by the golden gamma, and the new state gives the draw
abbrev pub split_rule : ℕ → Drawn ℕ
split_rule s = let next : ℕ = low64 (s + 0x9e3779b97f4a7c15) in record { draw = mixed next; value = next }
