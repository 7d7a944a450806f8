-- What a call does to a stopper, besides its answer.
use Rattle.std.specs.Prelude.{◌≡◌}
use Rattle.signal.specs.declared.Stopper.{Stopper}
use Rattle.signal.specs.Model.{Stops, view, woken_by, completion_wakes}
use Rattle.signal.specs.Laws.{Keeps, CompletionWakes}

-- it makes this of the stops and wakes nobody: whom the last stop, letting go or end of a task woke is still told
pub record Makes (next : Stops → Stops) (was is : Stopper) : Type 0 where
  pub state : view is ≡ next (view was)
  pub woken : woken_by is ≡ woken_by was
  pub keeps : Keeps (view was) (view is)

-- it makes this of the stops, and if completion comes with that, it wakes those who asked for it
pub record Settles (next : Stops → Stops) (was is : Stopper) : Type 0 where
  pub state : view is ≡ next (view was)
  pub woken : woken_by is ≡ completion_wakes (view was) (view is)
  pub keeps : Keeps (view was) (view is)
  pub wakes : CompletionWakes (view was) (view is) (woken_by is)
