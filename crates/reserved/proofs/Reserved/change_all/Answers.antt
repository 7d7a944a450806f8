use Rattle.std.proofs.Common.{arith}
use Rattle.reserved.proofs.Changes.{changed_more}
use Rattle.reserved.proofs.Reserved.change_all.Goals as goal

pub loop-element-preserved : goal.loop-element-preserved
loop-element-preserved g c = changed_more _ _ _ c.loop-element.element-index c.element-item.result _ c.loop-element.invariant (omega (arith, c.loop-element-test.true, c.deref_mut-element-items.ensures.len, c.loop-element.auto.element-items)) c.element-item.is (rw (← c.element-item.is) at c.step.ensures)
