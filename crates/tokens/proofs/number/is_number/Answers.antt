use Rattle.std.proofs.Common.{rules, tests, refl, ap, ◌∙◌}
use Rattle.std.proofs.lemmas.Iterator.{YieldsList-from_slice}
use Rattle.std.proofs.lemmas.Iterator.Search.{all_from_yields_List}
use Rattle.tokens.specs.Numbers.{is_digit, is_numeral}
use Rattle.tokens.proofs.Words.{all_digits_all, some_digits, stripped}
use Rattle.tokens.proofs.number.is_number.Goals as goal

pub returns-then-not-is_empty : goal.returns-then-not-is_empty
returns-then-not-is_empty c =
    let digits = c.unwrap_or-digits.result in
    let behind = stripped c.args.bytes.now c.strip_prefix.result c.args.bytes digits c.strip_prefix.ensures.cases refl c.unwrap_or-digits.ensures in
    let all = all_from_yields_List is_digit _ _ c.all.result c.all.ensures.ran (YieldsList-from_slice digits.now cc) (λ x b q k. search (rules, tests)) in
    all ∙ all_digits_all digits.now ∙ some_digits digits.now c.if-not-is_empty.ensures ∙ ap is_numeral behind
