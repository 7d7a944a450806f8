-- The task that a record of one stands for.
use Rattle.std.specs.Prelude.{List, map}
use Rattle.deterministic.specs.Model as model
use Rattle.tasks.specs.declared.task.Task.{Task}
use Rattle.tasks.specs.Label.{label_bytes}

-- the same task, its label as bytes
abbrev pub task_view : Task → model.Task
task_view t = record { id = t.id; label = label_bytes t.label; node = t.node; marked = t.marked; pended = t.pended }

-- the tasks of a list, in its order
abbrev pub tasks_view : List Task → List model.Task
tasks_view = map task_view
