use Rattle.std.proofs.Common.{◌≡◌, ◌++◌, map, drop, codes, vec_items}
use Rattle.forms.specs.Views.{act_of, acts_of}
use Rattle.grammar.specs.Spelled.{spelled_acts}
use Rattle.script_print.proofs.print.put_task.Given as goal

abbrev pub invariant-loop-step : goal.invariant-loop-step
invariant-loop-step l =
    vec_items l.out ++ spelled_acts (map act_of (drop l.step-index l.step-items)) ≡ vec_items l.fn.out ++ (codes "(task " ++ (l.task.name.now ++ spelled_acts (acts_of l.task)))
