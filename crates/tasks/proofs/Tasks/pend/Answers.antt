use Rattle.std.proofs.Common.{refl}
use Rattle.deterministic.specs.Model.{pended}
use Rattle.tasks.proofs.Changes.{remade, remade_only, remade_view}
use Rattle.tasks.proofs.Tasks.pend.Goals as goal

pub returns : goal.returns
returns c =
    let changed = remade_view pended (λ _. refl) c.args.id _ _ (c.change.ensures.rows (remade pended) (λ x y made. remade_only pended x y made.0 made.1)) in
    λ i. record { tasks = changed i; next = c.change.ensures.next i }
