-- What is below is aborted and marked.
use Rattle.std.proofs.Common.{◌∙◌}
use Rattle.supervision.specs.Calls as supervision
use Rattle.tasks.specs.Task.{task_view}
use Rattle.state.specs.View.{view}
use Rattle.deterministic.specs.Model.{with_tree}
use Rattle.ending.proofs.Parts.{cascades}
use Rattle.ending.proofs.steps.cascade.Goals as goal

pub returns-in-Some-node-clause-state : goal.returns-in-Some-node-clause-state
returns-in-Some-node-clause-state c =
    let m = view c.args.state.now in
    let tree = supervision.view c.cascade.new.self in
    cascades c.args.task c.in-Some-node.node (task_view c.in-Some.ending) m _ tree c.marks.result.now c.in-Some.ensures.task c.in-Some-node.is c.cascade.ensures.state (c.marks.ensures ∙ c.cascade.ensures.marks)
    (c.mark_all.ensures.state (with_tree tree m))
