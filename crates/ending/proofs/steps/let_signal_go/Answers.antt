-- The signal goes, and those who asked for completion are queued.
use Rattle.state.specs.View.{view}
use Rattle.ending.proofs.Parts.{goes}
use Rattle.ending.proofs.steps.let_signal_go.Goals as goal

pub returns-clause-state : goal.returns-clause-state
returns-clause-state c = goes c.args.state.now.dispatcher c.queue_all.new.self c.args.task (view c.args.state.now) _ c.woken.result.now c.queue_all.ensures.state (cc) (cc)
