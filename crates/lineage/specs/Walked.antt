-- What a walk stands for: the nodes that wait, and the tasks given so far.
use Rattle.std.specs.Prelude.{ℕ, List}
use Rattle.reserved.specs.Held.{held}
use Rattle.lineage.specs.declared.walk.Walk.{Walk}

-- the tasks to mark, in order
abbrev pub to_mark : Walk → List ℕ
to_mark w = held w.marks

-- the nodes that wait, the next one last
abbrev pub to_visit : Walk → List ℕ
to_visit w = held w.waiting
