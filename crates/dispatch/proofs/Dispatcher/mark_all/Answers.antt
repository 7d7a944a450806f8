-- Id by id, and at the end all.
use Rattle.std.proofs.Common.{◌∙◌, arith}
use Rattle.dispatch.specs.Seen.{seen}
use Rattle.dispatch.proofs.Marks.{markings_more, markings_all}
use Rattle.dispatch.proofs.Dispatcher.mark_all.Goals as goal

pub loop-id-preserved : goal.loop-id-preserved
loop-id-preserved c =
    let so_far = c.loop-id.invariant in
    let told = c.mark.ensures in (
      λ m. markings_more c.args.spared c.args.ids.now c.loop-id.id-index _ _ _ c.loop-id-test.true c.if-id-spared.false (told.state m) ∙ so_far.0 m,
      told.fit,
      record { left = omega (arith, told.spent.left, so_far.2.left); waiting = omega (arith, told.spent.waiting, so_far.2.waiting) },
    )

pub returns-clause-state : goal.returns-clause-state
returns-clause-state c m = markings_all c.args.spared c.args.ids.now c.loop-id.id-index (seen c.loop-id.self c.loop-id.counts m) c.loop-id-test.false ∙ c.loop-id.invariant.0 m
