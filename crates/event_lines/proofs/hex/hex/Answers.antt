use Rattle.std.proofs.Common.{◌≡◌, [], ◌∷◌, length, sym, ◌∙◌, rules}
use Rattle.event_lines.proofs.Digits.{hex_of_four}
use Rattle.event_lines.proofs.hex.hex.Goals as goal

pub returns : goal.returns
returns c =
    let four : length c.args.digest ≡ 4 = search rules in
    (λ i. c.hex_digit.ensures i ∷ c.hex_digit-2.ensures i ∷ c.hex_digit-3.ensures i ∷ c.hex_digit-4.ensures i ∷ c.hex_digit-5.ensures i ∷ c.hex_digit-6.ensures i ∷ c.hex_digit-7.ensures i ∷ c.hex_digit-8.ensures i ∷ [])
    ∙ sym (hex_of_four c.args.digest four)
