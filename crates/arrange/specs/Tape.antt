-- A tape of draws. Assumes nothing.
use Rattle.std.specs.Prelude.{ℕ, List, [], ◌∷◌}
use Rattle.std.specs.Vec.Iter.{into_iter_items}
use Rattle.arrange.specs.declared.tape.Tape.{Tape}
use Rattle.arrange.specs.Draws.{Drawn}

-- the draws that are left on a tape
abbrev pub left : Tape → List ℕ
left t = into_iter_items t.draws

-- the first of the draws that are left, and zero once none is
abbrev pub tape_rule : List ℕ → Drawn (List ℕ)
tape_rule [] = record { draw = 0; value = [] }
tape_rule (d ∷ ds) = record { draw = d; value = ds }
