-- The registry that the tasks stand for.
use Rattle.std.specs.Prelude.{[]}
use Rattle.keyed.specs.Table.{rows, next_key}
use Rattle.deterministic.specs.Model.{Registry}
use Rattle.tasks.specs.declared.Tasks.{Tasks}
use Rattle.tasks.specs.Task.{tasks_view}

-- the tasks that are held, and the id that comes next
abbrev pub view : Tasks → Registry
view t = record { tasks = tasks_view (rows t.tasks); next = next_key t.tasks }

-- no task is registered, and none was
abbrev pub nobody : Registry
nobody = record { tasks = []; next = 0 }
