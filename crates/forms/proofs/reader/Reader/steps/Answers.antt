use Rattle.std.proofs.Common.{◌∙◌}
use Rattle.std.proofs.lemmas.Result.{err_from_is_err_and}
use Rattle.forms.proofs.Acts.{read_before_step, read_before_end, read_before_none}
use Rattle.forms.proofs.reader.Reader.steps.Goals as goal

pub returns-in_err-step : goal.returns-in_err-step
returns-in_err-step c =
    let p = err_from_is_err_and c.from_residual.result c.from_residual.ensures.1 in
    rw (p.1, p.2) (c.loop-steps.invariant ∙ read_before_none _ _ _ c.in_err-step.ensures.answer)

pub loop-steps-preserved : goal.loop-steps-preserved
loop-steps-preserved c =
    c.loop-steps.invariant
    ∙ read_before_step _ _ _ c.in_ok-step.ensures.answer _ _ _ c.in-Some.is c.in_ok-push.ensures.items c.next_step.ensures.state

pub returns : goal.returns
returns c = c.loop-steps.invariant ∙ read_before_end _ _ _ c.in_ok-step.ensures.answer c.in_default.is
