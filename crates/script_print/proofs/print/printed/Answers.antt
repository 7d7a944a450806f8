use Rattle.std.proofs.Common.{arith, append_assoc}
use Rattle.script_print.proofs.Growing.{spelled_tasks_turn, tasks_printed}
use Rattle.script_print.proofs.print.printed.Goals as goal

pub loop-task-preserved : goal.loop-task-preserved
loop-task-preserved c =
    let turn = spelled_tasks_turn c.deref-task-items.result.now c.loop-task.task-index c.task-item.result c.loop-task-test.true c.task-item.is in grind (arith, append_assoc)

pub returns : goal.returns
returns c = tasks_printed _ _ c.deref-task-items.result.now c.loop-task.task-index c.loop-task-test.false c.loop-task.invariant
