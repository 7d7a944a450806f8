-- A number is known by its bytes.
use Rattle.std.proofs.Common.{◌≡◌, ℕ, zero, suc, ◌+◌, ◌*◌, ◌/◌, ◌%◌, ◌^◌, ◌<◌, length, sym, refl, ap, ◌∙◌, mod-eq_of_lt, zero-lt-suc, arith}
use mathlib.Core.List.{head-eq_of_cons-eq, tail-eq_of_cons-eq}
use native.Mathlib.Nat.{pow-succ', one-le-pow}
use lib.Arith.{mod-mul}
use Rattle.auditor.specs.Bytes.{big_endian}

pub big_endian_length : (k n : ℕ) → length (big_endian k n) ≡ k
big_endian_length zero n = refl
big_endian_length (suc k) n = ap suc (big_endian_length k n)

-- the lowest suc k bytes are the byte at k and the lowest k
mod_more : (k n : ℕ) → n % 256 ^ suc k ≡ (n / 256 ^ k % 256) * 256 ^ k + n % 256 ^ k
mod_more k n = ap (λ (m : ℕ). n % m) (pow-succ' 256 k) ∙ mod-mul n (zero-lt-suc 255) (one-le-pow k 256 (zero-lt-suc 255))

big_endian_mod : (k m n : ℕ) → big_endian k m ≡ big_endian k n → m % 256 ^ k ≡ n % 256 ^ k
big_endian_mod zero m n same = omega arith
big_endian_mod (suc k) m n same =
    mod_more k m
    ∙ (λ i. head-eq_of_cons-eq same i * 256 ^ k + big_endian_mod k m n (tail-eq_of_cons-eq same) i)
    ∙ sym (mod_more k n)

pub big_endian_injective : (k m n : ℕ) → m < 256 ^ k → n < 256 ^ k → big_endian k m ≡ big_endian k n → m ≡ n
big_endian_injective k m n p q same = sym (mod-eq_of_lt p) ∙ big_endian_mod k m n same ∙ mod-eq_of_lt q
