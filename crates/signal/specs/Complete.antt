-- When a stop is complete.
use Rattle.std.specs.Prelude.{Bool, not, ◌&&◌, List, ℤ, is_some, Option}
use Rattle.roster.specs.declared.row.Row.{Row}
use Rattle.roster.specs.Model.{some_open}

-- there was a stop, and no task holds an open signal
abbrev pub complete_with : Option ℤ → List Row → Bool
complete_with value rows = is_some value && not (some_open rows)
