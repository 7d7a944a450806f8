-- A removal from the table is a removal from the registry.
use Rattle.std.proofs.Common.{refl, rules}
use Rattle.keyed.specs.Table.{rows}
use Rattle.keyed.proofs.Views.{without_view}
use Rattle.deterministic.specs.Model.{id_of}
use Rattle.tasks.specs.Task.{task_view}
use Rattle.tasks.proofs.Tasks.remove.Goals as goal

pub returns : goal.returns
returns c =
    let left = without_view task_view (λ t. t.id) id_of (λ _. refl) c.args.id (rows c.args.self.now.tasks) in
    search (rules, left)
