-- What the steps of a task's end spend before the cascade.
use Rattle.std.specs.Prelude.{◌≡◌, ℕ, ◌+◌, ◌≤◌}
use Rattle.tasks.specs.Model as tasks
use Rattle.dispatch.specs.declared.Dispatcher.{Dispatcher}
use Rattle.dispatch.specs.Seen.{free_entries, waiting_ids}

-- from one dispatcher to another at most so many entries are written and ids queued, and the registry stays
pub record SpendsAtMost (d e : Dispatcher) (most : ℕ) : Type 0 where
  pub left : free_entries d ≤ free_entries e + most
  pub waiting : waiting_ids e ≤ waiting_ids d + most
  pub registry : tasks.view e.tasks ≡ tasks.view d.tasks
