-- What the calls on a stopper keep, in the words of stops and signals.
use Rattle.std.specs.Prelude.{◌≡◌, ℕ, true, false, List, [], ℤ, Some}
use Rattle.roster.specs.Model.{Ascending}
use Rattle.signal.specs.Model.{Stops, has_stopped, complete}

-- the first stop value stays, and so does completion, since no open signal is given after the stop
pub record Keeps (was is : Stops) : Type 0 where
  pub first_value : (v : ℤ) → was.value ≡ Some v → is.value ≡ Some v
  pub completion : complete was ≡ true → complete is ≡ true

-- a later stop wakes nobody, and those woken by the first ascend, each once
pub record StopWakes (was : Stops) (woken : List ℕ) : Type 0 where
  pub later : has_stopped was ≡ true → woken ≡ []
  pub ascending : Ascending woken

-- completion wakes when it comes and never again, and those woken ascend, each once
pub record CompletionWakes (was is : Stops) (woken : List ℕ) : Type 0 where
  pub once : complete was ≡ true → woken ≡ []
  pub then : complete is ≡ false → woken ≡ []
  pub ascending : Ascending woken
