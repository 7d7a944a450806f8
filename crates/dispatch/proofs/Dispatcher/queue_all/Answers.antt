-- Id by id, and at the end all.
use Rattle.std.proofs.Common.{◌∙◌, arith}
use Rattle.dispatch.specs.Seen.{seen}
use Rattle.dispatch.proofs.Waking.{wakes_more, wakes_all}
use Rattle.dispatch.proofs.Dispatcher.queue_all.Goals as goal

pub loop-id-preserved : goal.loop-id-preserved
loop-id-preserved c =
    let spent = c.queue.ensures.spent in
    let so_far = c.loop-id.invariant.1 in (
      λ k m. wakes_more c.args.cause c.args.ids.now c.loop-id.id-index _ _ _ c.loop-id-test.true (c.queue.ensures.state k m) ∙ c.loop-id.invariant.0 k m,
      record { left = omega (arith, spent.left, so_far.left); waiting = omega (arith, spent.waiting, so_far.waiting); registry = spent.registry ∙ so_far.registry },
    )

pub returns-clause-state : goal.returns-clause-state
returns-clause-state c k m = wakes_all c.args.cause c.args.ids.now c.loop-id.id-index (seen c.loop-id.self k m) c.loop-id-test.false ∙ c.loop-id.invariant.0 k m
