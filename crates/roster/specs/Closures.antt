-- What the closures that a roster is given keep of a row.
use Rattle.std.specs.Prelude.{◌≡◌}
use Rattle.roster.specs.declared.row.Row.{Row}
use Rattle.roster.specs.Row.{task_of}

-- the row stays its task's
abbrev pub KeepsTask : (Row → Row) → Type 0
KeepsTask change = (row : Row) → task_of (change row) ≡ task_of row
