-- The task that the id finds is the registered one, and its id was given out.
use Rattle.std.proofs.Common.{refl, rules}
use Rattle.keyed.specs.Table.{rows}
use Rattle.keyed.proofs.Tables.{found_below}
use Rattle.keyed.proofs.Views.{find_view}
use Rattle.deterministic.specs.Model.{id_of}
use Rattle.tasks.specs.Task.{task_view}
use Rattle.tasks.proofs.Tasks.find.Goals as goal

pub returns-clause-task : goal.returns-clause-task
returns-clause-task c =
    let seen = find_view task_view (λ t. t.id) id_of (λ _. refl) c.args.id (rows c.args.self.now.tasks) in
    search (rules, seen)

pub returns-clause-given : goal.returns-clause-given
returns-clause-given c =
    let below = found_below (λ t. t.id) _ c.args.id (rows c.args.self.now.tasks) c.find.result c.args.self.now.tasks.order in
    search (rules, below)
