use Rattle.reserved.specs.Held.{held}
use Rattle.reserved.proofs.Changes.{Changed}
use Rattle.reserved.proofs.Reserved.change_all.Given as goal

abbrev pub invariant-loop-element : goal.invariant-loop-element
invariant-loop-element g l = Changed (λ x y. g.F.Fn.post l.step (x, tt) y) (held l.fn.self) l.element-items l.element-index
