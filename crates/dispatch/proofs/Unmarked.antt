-- How many tasks of a registry are not marked, after one is.
use Rattle.std.proofs.Common.{◌≡◌, ℕ, ◌<◌, false, Some, sym, ap, ◌∙◌, arith}
use Rattle.keyed.specs.Keyed.{find, change}
use Rattle.keyed.proofs.Finds.{find_key}
use Rattle.deterministic.specs.Model.{Task, Registry, id_of, marked, with_changed}
use Rattle.deterministic.specs.Bounds.{unmarked}
use Rattle.deterministic.proofs.Unmarked.{unmarked_one_fewer}

-- a registry in which a task is marked has one fewer
pub unmarked_mark : (i : ℕ) (r s : Registry) (t : Task) → Some t ≡ find id_of i r.tasks → t.marked ≡ false → s ≡ with_changed marked t.id r → unmarked s.tasks < unmarked r.tasks
unmarked_mark i r s t found new changed =
    let is : s.tasks ≡ change id_of marked i r.tasks = ap (λ (x : Registry). x.tasks) changed ∙ ap (λ (k : ℕ). change id_of marked k r.tasks) (find_key id_of i r.tasks t (sym found)) in
    rw is (omega (arith, unmarked_one_fewer i r.tasks t (sym found) new))
