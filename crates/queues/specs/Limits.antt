-- How many ids may wait.
use Rattle.std.specs.Prelude.{ℕ}

-- the most ids that wait at once
abbrev pub most_waiting : ℕ
most_waiting = 1024
