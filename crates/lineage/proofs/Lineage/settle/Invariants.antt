use Rattle.std.proofs.Common.{◌≡◌, length}
use Rattle.lineage.specs.Family.{family_of}
use Rattle.lineage.specs.Deaths.{settled}
use Rattle.lineage.proofs.Lineage.settle.Given as goal

abbrev pub invariant-loop-node : goal.invariant-loop-node
invariant-loop-node l = settled (family_of l.self) ≡ settled (family_of l.initial.self)

abbrev pub decreases-loop-node : goal.decreases-loop-node
decreases-loop-node l = length (family_of l.self).nodes
