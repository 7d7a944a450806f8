use Rattle.std.proofs.Common.{◌≡◌, [], map, take, drop}
use Rattle.forms.specs.Views.{task_of}
use Rattle.grammar.specs.Reading.{misnamed}
use Rattle.names.specs.Names.{names_in}
use Rattle.names.proofs.misnamed_line.Given as goal

abbrev pub invariant-loop-i : goal.invariant-loop-i
invariant-loop-i l =
    misnamed (names_in l.tasks) [] (map task_of l.tasks) ≡ misnamed (names_in l.tasks) (names_in (take l.i l.tasks)) (map task_of (drop l.i l.tasks))
