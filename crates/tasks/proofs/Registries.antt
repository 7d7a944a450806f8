-- What holds of the registry of any tasks.
use Rattle.std.proofs.Common.{◌≡◌, ℕ, suc, ◌≤◌, true, List, [], ◌∷◌, length, None, refl, ◌∙◌, arith}
use Rattle.std.proofs.lemmas.List.{length-map}
use Rattle.std.proofs.lemmas.Bool.{ne_eqb}
use Rattle.keyed.specs.Keyed.{ordered, find}
use Rattle.keyed.proofs.Orders.{ordered_first, ordered_bounds}
use Rattle.keyed.specs.Table.{rows, next_key}
use Rattle.keyed.proofs.Views.{ordered_view}
use Rattle.deterministic.specs.Model.{id_of}
use Rattle.tasks.specs.declared.Tasks.{Tasks}
use Rattle.tasks.specs.Limits.{most_tasks}
use Rattle.tasks.specs.Task.{task_view}
use Rattle.tasks.specs.Model.{view}

-- at most so many tasks are registered
pub few_tasks : (t : Tasks) → length (view t).tasks ≤ most_tasks
few_tasks t = omega (arith, length-map (rows t.tasks) task_view, t.tasks.rows.few, t.tasks.rows.list.ok.0)

-- the ids ascend, and each is below the next one
pub ordered_tasks : (t : Tasks) → ordered id_of 0 (view t).next (view t).tasks ≡ true
ordered_tasks t = ordered_view task_view (λ u. u.id) id_of (λ _. refl) 0 (next_key t.tasks) (rows t.tasks) ∙ t.tasks.order

-- where the keys end there is none
find_high : {X : Type 0} (key : X → ℕ) (lo hi k : ℕ) (xs : List X) → ordered key lo hi xs ≡ true → hi ≤ k → find key k xs ≡ None
find_high key lo hi k [] o h = refl
find_high key lo hi k (x ∷ xs) o h =
    let p = ordered_first key lo hi x xs o in
    rw (ne_eqb (key x) k (λ e. omega (arith, ordered_bounds key (suc (key x)) hi xs p.1))) (find_high key (suc (key x)) hi k xs p.1 h)

-- the next id is no task's
pub find_next : (t : Tasks) → find id_of (view t).next (view t).tasks ≡ None
find_next t = find_high id_of 0 (view t).next (view t).next (view t).tasks (ordered_tasks t) (omega arith)
