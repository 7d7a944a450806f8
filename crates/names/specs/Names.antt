-- The names that tasks of the code have. Assumes nothing.
use Rattle.std.specs.Prelude.{ℕ, List, map}
use Rattle.forms.specs.declared.form.TaskForm.{TaskForm}
use Rattle.forms.specs.Views.{task_of}
use Rattle.grammar.specs.Reading.{names_of}

-- the names that tasks have, in order
abbrev pub names_in : List TaskForm → List (List ℕ)
names_in ts = names_of (map task_of ts)
