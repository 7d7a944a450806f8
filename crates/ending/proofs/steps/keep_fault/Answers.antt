-- The first fault that is not caught is kept, and the root is queued.
use Rattle.state.specs.View.{view}
use Rattle.state.specs.Faults as faults
use Rattle.deterministic.specs.Model.{with_faults}
use Rattle.ending.proofs.Parts.{stays}
use Rattle.ending.proofs.steps.keep_fault.Goals as goal

pub returns-then-keep-clause-state : goal.returns-then-keep-clause-state
returns-then-keep-clause-state c =
    let m = view c.args.state.now in
    let after = faults.view c.keep.new.self in
    stays c.args.fault c.in-Some.code m _ after c.keep.result c.in-Some.is c.if-keep.true c.keep.ensures.answer c.keep.ensures.state (c.queue.ensures.state m.counts (with_faults after m))
