-- The table's rule: the entry at k is what eight bit steps make of k.
use Rattle.std.proofs.Common.{◌≡◌, ℕ, ◌/◌, ◌%◌, ◌<◌, List, map, get_or, sym, ap, ◌∙◌, zero-add, arith}
use lib.Bits.{bit_xor, bit_and, and_mask, xor_shr, xor_zero_r}
use Rattle.std.specs.List.{range_with_len}
use Rattle.std.proofs.lemmas.List.FromFn.{get_or-map-range_with_len}
use Rattle.crc32c.specs.Crc.{after_eight}
use Rattle.crc32c.proofs.Linear.{after_eight_split}

-- the table by its rule
abbrev pub table : List ℕ
table = map after_eight (range_with_len 0 256)

pub table_takes_byte : (register byte : ℕ) → byte < 256 → bit_xor (get_or table (bit_and (bit_xor register byte) 255) 0) (register / 256) ≡ after_eight (bit_xor register byte)
table_takes_byte register byte h =
    let x = bit_xor register byte in
    let low : bit_and x 255 ≡ x % 256 = and_mask x 8 in
    let none : byte / 256 ≡ 0 = omega arith in
    let high : register / 256 ≡ x / 256 = sym (xor_shr register byte 8 ∙ ap (bit_xor (register / 256)) none ∙ xor_zero_r (register / 256)) in
    let entry : get_or table (bit_and x 255) 0 ≡ after_eight (x % 256) = ap (λ (i : ℕ). get_or table i 0) low ∙ get_or-map-range_with_len after_eight 0 256 (x % 256) (x % 256) 0 (omega arith) (zero-add (x % 256)) in
    (λ i. bit_xor (entry i) (high i)) ∙ sym (after_eight_split x)
