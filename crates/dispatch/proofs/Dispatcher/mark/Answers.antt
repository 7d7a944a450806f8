-- A mark spends one of the tasks that are not marked.
use Rattle.std.proofs.Common.{refl, arith}
use Rattle.std.proofs.lemmas.Bool.{not-true}
use Rattle.tasks.specs.Task.{task_view}
use Rattle.tasks.specs.Model as tasks
use Rattle.dispatch.proofs.Unmarked.{unmarked_mark}
use Rattle.dispatch.proofs.Dispatcher.mark.Goals as goal

pub mark_task-requires-clause-room : goal.mark_task-requires-clause-room
mark_task-requires-clause-room c =
    let one_fewer = unmarked_mark c.args.id (tasks.view c.args.self.now.tasks) _ (task_view c.in-Some.task) c.in-Some.ensures.task (not-true _ c.if-not-task.true) refl in
    record { entries_left = omega (arith, one_fewer, c.requires.fit.entries_left); places_left = omega (arith, one_fewer, c.requires.fit.places_left) }

pub returns-then-not-task-clause-fit : goal.returns-then-not-task-clause-fit
returns-then-not-task-clause-fit c =
    let told = c.mark_task.ensures in
    let one_fewer = unmarked_mark c.args.id (tasks.view c.args.self.now.tasks) _ (task_view c.in-Some.task) c.in-Some.ensures.task (not-true _ c.if-not-task.true) told.registry in
    record { entries_left = omega (arith, one_fewer, told.left, c.requires.fit.entries_left); places_left = omega (arith, one_fewer, told.waiting, c.requires.fit.places_left) }

pub returns-then-not-task-clause-spent : goal.returns-then-not-task-clause-spent
returns-then-not-task-clause-spent c =
    let told = c.mark_task.ensures in
    let one_fewer = unmarked_mark c.args.id (tasks.view c.args.self.now.tasks) _ (task_view c.in-Some.task) c.in-Some.ensures.task (not-true _ c.if-not-task.true) told.registry in
    record { left = omega (arith, one_fewer, told.left); waiting = omega (arith, one_fewer, told.waiting) }
