-- What a roster stands for, and what each call makes of it and answers.
use Rattle.std.specs.Prelude.{ℕ, ◌+◌, ◌<◌, Bool, false, List, [], ◌∷◌, ◌++◌, map, filter}
use Rattle.std.specs.List.{AllByRecursion, list_any}
use Rattle.keyed.specs.Keyed.{find, change, without}
use Rattle.keyed.specs.Choices.{given}
use Rattle.keyed.specs.Table.{rows, next_key}
use Rattle.roster.specs.declared.Roster.{Roster}
use Rattle.roster.specs.declared.row.Row.{Row}
use Rattle.roster.specs.Row.{task_of, fresh, holds, is_open}

-- the rows of the registered tasks by ascending id, and the least id that may come next
pub record Roll : Type 0 where
  pub rows : List Row
  pub next : ℕ

-- the rows that a roster holds
abbrev pub view : Roster → Roll
view r = record { rows = rows r.rows; next = next_key r.rows }

-- no task is registered
abbrev pub nobody : Roll
nobody = record { rows = []; next = 0 }

-- a task is registered
abbrev pub entered : ℕ → Roll → Roll
entered task R = record { rows = R.rows ++ fresh task ∷ []; next = task + 1 }

-- a step at a task's row
abbrev pub turned : (Row → Row) → ℕ → Roll → Roll
turned step task R = record { rows = change task_of step task R.rows; next = R.next }

-- a task leaves
abbrev pub departed : ℕ → Roll → Roll
departed task R = record { rows = without task_of task R.rows; next = R.next }

-- a task holds a signal
abbrev pub holder : ℕ → List Row → Bool
holder task rows = given (find task_of task rows) false holds

-- some task holds an open signal
abbrev pub some_open : List Row → Bool
some_open = list_any is_open

-- the tasks whose rows pass the test, by ascending id
abbrev pub called : (Row → Bool) → List Row → List ℕ
called test rows = map task_of (filter test rows)

-- ids ascend, so that each stands once
abbrev pub Ascending : List ℕ → Type 0
Ascending [] = Unit {0}
Ascending (k ∷ ks) = AllByRecursion (λ j. k < j) ks × Ascending ks
