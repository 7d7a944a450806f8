-- What a stopper stands for, and what each call makes of it, answers and wakes.
use Rattle.std.specs.Prelude.{ℕ, Bool, cond, not, ◌&&◌, List, [], ℤ, is_some, Some, None, Ok, Err, Option, Result}
use Rattle.keyed.specs.Choices.{whether}
use Rattle.oneshot.specs.Cell.{held as sent_value, sent}
use Rattle.reserved.specs.Held.{held}
use Rattle.roster.specs.declared.row.Signal.{Signal}
use Rattle.roster.specs.declared.row.Signal.TheVariants.{Open, Closed}
use Rattle.roster.specs.Row.{takes, awaits, lets_go, asks, is_waiting, has_asked}
use Rattle.roster.specs.Model.{Roll, nobody, turned, departed, holder, called}
use Rattle.roster.specs.Model as roster
use Rattle.signal.specs.declared.Refusal.{Refusal}
use Rattle.signal.specs.declared.Refusal.TheVariants.{NoSignal, NotStopped}
use Rattle.signal.specs.declared.Stopper.{Stopper}
use Rattle.signal.specs.Complete.{complete_with}

-- the first stop value, once there was a stop, and the rows of the registered tasks
pub record Stops : Type 0 where
  pub value : Option ℤ
  pub roll : Roll

-- the first stop value that a stopper holds
abbrev pub stop_value : Stopper → Option ℤ
stop_value s = sent_value s.value

-- the stop value and the rows that a stopper holds
abbrev pub view : Stopper → Stops
view s = record { value = stop_value s; roll = roster.view s.roster }

-- whom the last stop, letting go or end of a task woke
abbrev pub woken_by : Stopper → List ℕ
woken_by s = held s.woken

-- no stop yet, and no task
abbrev pub unstopped : Stops
unstopped = record { value = None; roll = nobody }

-- there was a stop
abbrev pub has_stopped : Stops → Bool
has_stopped S = is_some S.value

-- there was a stop, and no task holds an open signal
abbrev pub complete : Stops → Bool
complete S = complete_with S.value S.roll.rows

-- other rows, and the same stop value
abbrev pub with_roll : Roll → Stops → Stops
with_roll R S = record { value = S.value; roll = R }

-- a task is registered
abbrev pub entered : ℕ → Stops → Stops
entered task S = with_roll (roster.entered task S.roll) S

-- a signal is open if it is taken before the stop, and closed after it
abbrev pub offered : Option ℤ → Signal
offered None = Open
offered (Some first) = Closed

-- a task that holds no signal takes one, open before the stop and closed after it
abbrev pub given : ℕ → Stops → Stops
given task S = with_roll (turned (takes (offered S.value)) task S.roll) S

-- a holder learns the first stop value, or that there is none yet; who holds none is refused
abbrev pub signal_answer : ℕ → Stops → Result (Option ℤ) Refusal
signal_answer task S = cond (holder task S.roll.rows) (Ok S.value) (Err NoSignal)

-- a holder that asks before the stop waits for it
abbrev pub awaiting : ℕ → Stops → Stops
awaiting task S = cond (holder task S.roll.rows) (whether S.value (with_roll (turned awaits task S.roll) S) S) S

-- a stop: the first value stays
abbrev pub stopped_by : ℤ → Stops → Stops
stopped_by v S = record { value = sent S.value v; roll = S.roll }

-- the first stop wakes those waiting, by ascending id; a later one wakes nobody
abbrev pub stop_wakes : Stops → List ℕ
stop_wakes S = whether S.value (called is_waiting S.roll.rows) []

-- whether completion has come; before the stop the question is refused
abbrev pub completed_answer : Stops → Result Bool Refusal
completed_answer S = cond (has_stopped S) (Ok (complete S)) (Err NotStopped)

-- who asks between the stop and completion has asked for good
abbrev pub asking : ℕ → Stops → Stops
asking task S = cond (has_stopped S) (cond (complete S) S (with_roll (turned asks task S.roll) S)) S

-- a task lets its signal go, if it holds one
abbrev pub let_go : ℕ → Stops → Stops
let_go task S = with_roll (turned lets_go task S.roll) S

-- a task ends: its signal goes, and it has no row any more
abbrev pub ended : ℕ → Stops → Stops
ended task S = with_roll (departed task S.roll) S

-- completion comes with this step: it was not there, and is
abbrev pub comes : Stops → Stops → Bool
comes was is = complete is && not (complete was)

-- completion wakes those who asked for it and are still registered, by ascending id
abbrev pub completion_wakes : Stops → Stops → List ℕ
completion_wakes was is = cond (comes was is) (called has_asked is.roll.rows) []
