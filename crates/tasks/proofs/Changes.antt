-- A change of a record in the table, seen as a change of a task in the registry.
use Rattle.std.proofs.Common.{◌≡◌, ℕ, List, refl, ap, ◌∙◌}
use Rattle.keyed.specs.Keyed.{change}
use Rattle.keyed.proofs.Views.{change_view}
use Rattle.deterministic.specs.Model as model
use Rattle.tasks.specs.declared.task.Task.{Task}
use Rattle.tasks.specs.Task.{task_view, tasks_view}

module _ (g : model.Task → model.Task) where
  -- the record of the task that g makes, with the label as it lay
  abbrev pub remade : Task → Task
  remade t = record { id = (g (task_view t)).id; label = t.label; node = (g (task_view t)).node; marked = (g (task_view t)).marked; pended = (g (task_view t)).pended }

  -- no other record shows that task and has that label
  pub remade_only : (x y : Task) → task_view y ≡ g (task_view x) → y.label ≡ x.label → y ≡ remade x
  remade_only x y seen label i = record { id = (seen i).id; label = label i; node = (seen i).node; marked = (seen i).marked; pended = (seen i).pended }

  pub remade_view : ((t : Task) → task_view (remade t) ≡ g (task_view t)) → (k : ℕ) (xs ys : List Task) → ys ≡ change (λ t. t.id) remade k xs → tasks_view ys ≡ change model.id_of g k (tasks_view xs)
  remade_view seen k xs ys is = ap tasks_view is ∙ change_view task_view (λ t. t.id) model.id_of (λ _. refl) remade g seen k xs
