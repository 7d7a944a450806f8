-- How much is held of labels and tasks.
use Rattle.std.specs.Prelude.{ℕ}

-- a label has at most so many bytes
abbrev pub most_label : ℕ
most_label = 32

-- as many tasks may be registered at once
abbrev pub most_tasks : ℕ
most_tasks = 64
