-- The mark, its entry, and the wake where the task has pended.
use Rattle.tasks.specs.Task.{task_view}
use Rattle.dispatch.proofs.Marks.{mark_alone, mark_woken}
use Rattle.dispatch.proofs.Dispatcher.mark_task.Goals as goal

pub returns-then-task-clause-state : goal.returns-then-task-clause-state
returns-then-task-clause-state c m =
    mark_woken _ _ _ c.args.counts.now c.saturating_sub-counts.result _ m (task_view c.args.task) c.requires.new c.mark.ensures c.saturating_sub-counts.ensures _ _ c.if-task.true (c.write.ensures.state _ m) (c.queue.ensures.state _ m)

pub returns-else-task-clause-state : goal.returns-else-task-clause-state
returns-else-task-clause-state c m =
    mark_alone _ _ _ c.args.counts.now c.saturating_sub-counts.result _ m (task_view c.args.task) c.requires.new c.mark.ensures c.saturating_sub-counts.ensures _ c.if-task.false (c.write.ensures.state _ m)
