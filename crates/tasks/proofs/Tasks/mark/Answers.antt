use Rattle.std.proofs.Common.{refl}
use Rattle.deterministic.specs.Model.{marked}
use Rattle.tasks.proofs.Changes.{remade, remade_only, remade_view}
use Rattle.tasks.proofs.Tasks.mark.Goals as goal

pub returns : goal.returns
returns c =
    let changed = remade_view marked (λ _. refl) c.args.id _ _ (c.change.ensures.rows (remade marked) (λ x y made. remade_only marked x y made.0 made.1)) in
    λ i. record { tasks = changed i; next = c.change.ensures.next i }
