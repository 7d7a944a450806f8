-- How many ids the queues hold at most.
use Rattle.std.proofs.Common.{◌≤◌, length, arith}
use Rattle.queues.specs.declared.Queues.{Queues}
use Rattle.queues.specs.Limits.{most_waiting}
use Rattle.queues.specs.View.{view}

-- no more wait than there is memory for
pub waiting_few : (q : Queues) → length (view q).waiting ≤ most_waiting
waiting_few q = omega (arith, q.waits.0, q.waiting.ok.0)

-- nor are more drained
pub drained_few : (q : Queues) → length (view q).drained ≤ most_waiting
drained_few q = omega (arith, q.drains.0, q.drained.ok.0)
