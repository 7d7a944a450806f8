use Rattle.std.proofs.Common.{◌≡◌, drop}
use Rattle.tokens.specs.Numbers.{numeral_up_to}
use Rattle.tokens.proofs.Digits.{on_up_to}
use Rattle.tokens.proofs.number.read_up_to.Given as goal

abbrev pub invariant-loop-byte : goal.invariant-loop-byte
invariant-loop-byte l = numeral_up_to l.most l.digits ≡ on_up_to l.most l.number (drop l.byte-index l.digits)
