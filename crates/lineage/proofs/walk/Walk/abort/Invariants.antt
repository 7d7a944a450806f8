use Rattle.std.proofs.Common.{◌+◌, ◌≤◌, length}
use Rattle.lineage.specs.Family.{family_of}
use Rattle.lineage.specs.Cascade.{cascaded, unaborted}
use Rattle.lineage.specs.Walked.{to_mark, to_visit}
use Rattle.lineage.proofs.Going.{Going}
use Rattle.lineage.proofs.walk.Walk.abort.Given as goal

abbrev pub invariant-loop-next : goal.invariant-loop-next
invariant-loop-next l =
    Going (length (to_visit l.self) + length (family_of l.lineage).links) (to_visit l.self) (family_of l.lineage) (to_mark l.self) (cascaded l.top (family_of l.initial.lineage))
    × (length (to_visit l.self) + length (family_of l.lineage).links ≤ 257)
    × (length (to_mark l.self) + unaborted (family_of l.lineage).nodes ≤ 128)

abbrev pub decreases-loop-next : goal.decreases-loop-next
decreases-loop-next l = length (to_visit l.self) + length (family_of l.lineage).links
