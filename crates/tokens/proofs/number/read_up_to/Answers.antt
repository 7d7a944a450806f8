use Rattle.std.proofs.Common.{◌≡◌, ◌+◌, ◌-◌, ◌*◌, ◌^◌, ◌<◌, ◌≤◌, Err, get_or, ◌∙◌, arith, rules}
use Rattle.tokens.specs.declared.token.LineFault.TheVariants.{NoForm}
use Rattle.tokens.proofs.Digits.{turn_past, as_fault}
use Rattle.tokens.proofs.number.read_up_to.Goals as goal

pub returns-in_err-number-clause-value : goal.returns-in_err-number-clause-value
returns-in_err-number-clause-value c =
    let now = c.loop-byte in
    let digits = c.args.digits.now in
    let refused : c.from_residual-in_err-number.result ≡ Err NoForm = search rules in
    let digit : c.in_ok-digit.digit ≡ get_or digits now.byte-index 0 - 48 = search rules in
    let past : 2 ^ 64 ≤ now.number * 10 + c.in_ok-digit.digit = search rules in
    let most = c.ranges.most.fits in
    let far : c.args.most < now.number * 10 + (get_or digits now.byte-index 0 - 48) = omega arith in
    refused ∙ as_fault _ (now.invariant ∙ turn_past c.args.most now.number now.byte-index digits c.loop-byte-test.true far)
