-- CRC-32C as RFC 3720 defines it, one bit at a time.
--
-- polynomial   0x11EDC6F41, here its 32 coefficients below the highest power, 0x1EDC6F41
-- reflected    every byte is taken from its lowest bit, so the register shifts down and the polynomial is turned round
-- register     begins as 32 ones; what is left after the last bit is complemented
use Rattle.std.specs.Prelude.{ℕ, zero, suc, ◌+◌, ◌*◌, ◌/◌, ◌%◌, ◌^◌, List, fold, bit_xor}

-- the lowest n bits of x in the other order
abbrev pub reversed : ℕ → ℕ → ℕ
reversed zero x = 0
reversed (suc n) x = x % 2 * 2 ^ n + reversed n (x / 2)

-- the polynomial of RFC 3720, without its highest power
abbrev pub polynomial : ℕ
polynomial = 0x1edc6f41

-- the polynomial turned round, for a register that shifts down
abbrev pub turned : ℕ
turned = reversed 32 polynomial

-- what the bit that leaves the register brings back: the polynomial if it is set, else nothing
abbrev pub feedback : ℕ → ℕ
feedback zero = 0
feedback (suc n) = turned

-- the register after its lowest bit has left
unfoldable pub after_bit : ℕ → ℕ
after_bit register = bit_xor (register / 2) (feedback (register % 2))

-- the register after eight bits have left
unfoldable pub after_eight : ℕ → ℕ
after_eight register = after_bit (after_bit (after_bit (after_bit (after_bit (after_bit (after_bit (after_bit register)))))))

-- the register after one byte more
abbrev pub after_byte : ℕ → ℕ → ℕ
after_byte register byte = after_eight (bit_xor register byte)

-- the register after some bytes more
abbrev pub after_bytes : ℕ → List ℕ → ℕ
after_bytes register bytes = fold after_byte register bytes

-- 32 ones
abbrev pub ones : ℕ
ones = 0xffffffff

-- the register once these bytes were fed, from its beginning
abbrev pub register_of : List ℕ → ℕ
register_of bytes = after_bytes ones bytes

-- the checksum of these bytes
abbrev pub checksum_of : List ℕ → ℕ
checksum_of bytes = bit_xor (register_of bytes) ones
