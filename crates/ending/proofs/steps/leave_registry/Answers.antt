-- The task leaves registry and node.
use Rattle.supervision.specs.Calls as supervision
use Rattle.tasks.specs.Model as tasks
use Rattle.state.specs.View.{view}
use Rattle.deterministic.specs.Model.{with_registry, with_tree}
use Rattle.ending.proofs.Parts.{leaves}
use Rattle.ending.proofs.steps.leave_registry.Goals as goal

pub returns : goal.returns
returns c =
    let m = view c.args.state.now in
    let registry = tasks.view c.remove.new.self in
    let tree = supervision.view c.leave.new.self in
    record { state = leaves c.args.task c.args.ending m _ registry tree c.remove.ensures c.leave.ensures.state (c.write.ensures.state m.counts (with_tree tree (with_registry registry m))) }
