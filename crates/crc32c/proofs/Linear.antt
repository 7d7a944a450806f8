-- A bit step is linear over exclusive or, so eight of them split at the low byte.
use Rattle.std.proofs.Common.{◌≡◌, ℕ, zero, suc, ◌*◌, ◌/◌, ◌%◌, ◌<◌, sym, refl, ap, ◌∙◌, arith}
use lib.Bits.{bit_xor, xor_shr, xor_mod, xor_assoc, xor_comm, xor_zero_r, xor_shifted}
use Rattle.std.proofs.lemmas.Nat.{shr_split}
use Rattle.crc32c.specs.Crc.{feedback, after_bit, after_eight}

-- what leaves an exclusive or brings back the exclusive or of what each brings back
feedback_xor : (a b : ℕ) → a < 2 → b < 2 → feedback (bit_xor a b) ≡ bit_xor (feedback a) (feedback b)
feedback_xor zero zero p q = refl
feedback_xor zero (suc zero) p q = refl
feedback_xor (suc zero) zero p q = refl
feedback_xor (suc zero) (suc zero) p q = refl
feedback_xor zero (suc (suc b)) p q = absurd (omega arith)
feedback_xor (suc zero) (suc (suc b)) p q = absurd (omega arith)
feedback_xor (suc (suc a)) b p q = absurd (omega arith)

-- the two middle ones of four exchange
xor_middle : (a b c d : ℕ) → bit_xor (bit_xor a b) (bit_xor c d) ≡ bit_xor (bit_xor a c) (bit_xor b d)
xor_middle a b c d =
    xor_assoc a b (bit_xor c d)
    ∙ ap (bit_xor a) (sym (xor_assoc b c d) ∙ ap (λ (x : ℕ). bit_xor x d) (xor_comm b c) ∙ xor_assoc c b d)
    ∙ sym (xor_assoc a c (bit_xor b d))

after_bit_xor : (x y : ℕ) → after_bit (bit_xor x y) ≡ bit_xor (after_bit x) (after_bit y)
unfolding after_bit
after_bit_xor x y =
    (λ i. bit_xor (xor_shr x y 1 i) (feedback (xor_mod x y 1 i)))
    ∙ ap (bit_xor (bit_xor (x / 2) (y / 2))) (feedback_xor (x % 2) (y % 2) (omega arith) (omega arith))
    ∙ xor_middle (x / 2) (y / 2) (feedback (x % 2)) (feedback (y % 2))

-- a low bit that is not set only leaves
after_bit_even : (h : ℕ) → after_bit (h * 2) ≡ h
unfolding after_bit
after_bit_even h =
    let half : h * 2 / 2 ≡ h = omega arith in
    let low : h * 2 % 2 ≡ 0 = omega arith in
    (λ i. bit_xor (half i) (feedback (low i))) ∙ xor_zero_r h

-- what is linear, done twice, is linear; what undoes a factor, done twice, undoes its square
module _ (f : ℕ → ℕ) where
  abbrev Linear : Type 0
  Linear = (x y : ℕ) → f (bit_xor x y) ≡ bit_xor (f x) (f y)

  twice_linear : Linear → (x y : ℕ) → f (f (bit_xor x y)) ≡ bit_xor (f (f x)) (f (f y))
  twice_linear p x y = ap f (p x y) ∙ p (f x) (f y)

after_eight_xor : (x y : ℕ) → after_eight (bit_xor x y) ≡ bit_xor (after_eight x) (after_eight y)
unfolding after_eight
after_eight_xor =
    let two : ℕ → ℕ = λ x. after_bit (after_bit x) in
    let four : ℕ → ℕ = λ x. two (two x) in
    twice_linear four (twice_linear two (twice_linear after_bit after_bit_xor))

after_eight_high : (h : ℕ) → after_eight (h * 256) ≡ h
unfolding after_eight
after_eight_high h =
    let two : ℕ → ℕ = λ x. after_bit (after_bit x) in
    let four : ℕ → ℕ = λ x. two (two x) in
    let by_two : (k : ℕ) → two (k * 2 * 2) ≡ k = λ k. ap after_bit (after_bit_even (k * 2)) ∙ after_bit_even k in
    let by_four : (k : ℕ) → four (k * 2 * 2 * 2 * 2) ≡ k = λ k. ap two (by_two (k * 2 * 2)) ∙ by_two k in
    let factors : h * 256 ≡ h * 2 * 2 * 2 * 2 * 2 * 2 * 2 * 2 = omega arith in
    ap (λ (x : ℕ). four (four x)) factors ∙ ap four (by_four (h * 2 * 2 * 2 * 2)) ∙ by_four h

-- eight bit steps act on the low byte, and shift the rest down
pub after_eight_split : (x : ℕ) → after_eight x ≡ bit_xor (after_eight (x % 256)) (x / 256)
after_eight_split x =
    let parts : x ≡ bit_xor (x / 256 * 256) (x % 256) = sym (xor_shifted (x / 256) 8 (x % 256) (omega arith) ∙ shr_split x 8) in
    ap after_eight parts
    ∙ after_eight_xor (x / 256 * 256) (x % 256)
    ∙ xor_comm (after_eight (x / 256 * 256)) (after_eight (x % 256))
    ∙ ap (bit_xor (after_eight (x % 256))) (after_eight_high (x / 256))
