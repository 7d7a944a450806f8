use Rattle.std.proofs.Common.{◌++◌, vec_items, ap, ◌∙◌, append_assoc}
use Rattle.forms.specs.Views.{task_of}
use Rattle.grammar.specs.Spelled.{ending, spelled_task}
use Rattle.script_print.proofs.Growing.{grown_last, printed_turn, spelled_acts_turn, acts_printed, spaced}
use Rattle.script_print.proofs.print.put_task.Goals as goal

pub loop-step-preserved : goal.loop-step-preserved
loop-step-preserved c =
    printed_turn _ (vec_items c.loop-step.out) (vec_items c.put_step.new.out) _ _ _ c.loop-step.invariant
    (spelled_acts_turn c.deref-step-items.result.now c.loop-step.step-index _ c.loop-step-test.true)
    (spaced _ _ _ _ c.in_ok-extend_from_slice-3.ensures.items c.in_ok-put_step.ensures)

pub returns : goal.returns
returns c =
    let acts = acts_printed _ _ c.deref-step-items.result.now c.loop-step.step-index c.loop-step-test.false c.loop-step.invariant in
    grown_last c.extend_from_slice-3.result (vec_items c.args.out.now) (vec_items c.loop-step.out) _ ending (spelled_task (task_of c.args.task.now)) (ap (λ bs. bs ++ ending) acts ∙ simp append_assoc) c.extend_from_slice-3.ensures.items
