use Rattle.std.proofs.Common.{eqb, rules, tests, subst, arith}
use Rattle.std.proofs.lemmas.Iterator.{YieldsList-from_slice}
use Rattle.std.proofs.lemmas.Iterator.Search.{position_from_yields_List}
use Rattle.lines.proofs.Cuts.{Cut, text_of_cut}
use Rattle.lines.proofs.split_line.Goals as goal

pub returns-in_err-end-clause-cases : goal.returns-in_err-end-clause-cases
returns-in_err-end-clause-cases c =
    let bytes = c.args.bytes.now in
    let at = position_from_yields_List (λ b. eqb b 10) _ _ c.position.result c.position.ensures.ran (YieldsList-from_slice bytes cc) (λ x b q k. search (rules, tests)) in
    rw c.from_residual.ensures (subst (Cut bytes) c.in_err-end.was (text_of_cut bytes _ at))

pub returns-clause-cases : goal.returns-clause-cases
returns-clause-cases c =
    let bytes = c.args.bytes.now in
    let at = position_from_yields_List (λ b. eqb b 10) _ _ c.position.result c.position.ensures.ran (YieldsList-from_slice bytes cc) (λ x b q k. search (rules, tests)) in
    let cut = subst (Cut bytes) c.in_ok-end.was (text_of_cut bytes _ at) in
    grind (arith, cut)
