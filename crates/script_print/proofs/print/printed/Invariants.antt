use Rattle.std.proofs.Common.{◌≡◌, ◌++◌, map, drop, vec_items}
use Rattle.forms.specs.Views.{task_of}
use Rattle.grammar.specs.Spelled.{spelled, spelled_tasks}
use Rattle.script.specs.Views.{script_of}
use Rattle.script_print.proofs.print.printed.Given as goal

abbrev pub invariant-loop-task : goal.invariant-loop-task
invariant-loop-task l = vec_items l.out ++ spelled_tasks (map task_of (drop l.task-index l.task-items)) ≡ spelled (script_of l.script)
