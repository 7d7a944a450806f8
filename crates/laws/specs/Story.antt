-- A run as a story: its rounds, without the crew and the arranger.
--
-- fits     what is known of a move when it is made
-- path     acts, one after another, each at the executor where it is done
-- step     what comes as a whole: a deal's poll or skip, a body's call of the executor, a task's end
-- closed   the close of a round
-- story    rounds one after another, until the run ends
use Rattle.std.specs.Prelude.{◌≡◌, ℕ, ◌+◌, ◌<◌, Bool, true, false, List, [], ◌∷◌, ◌++◌, map, length, Some, None, Option}
use Rattle.std.specs.List.Sorted.{IsPermutation}
use Rattle.reasons.specs.declared.ending.Ending.{Ending}
use Rattle.lineage.specs.Family.{open_for, aborted_at}
use Rattle.alarms.specs.declared.Alarm.{Alarm}
use Rattle.alarms.specs.Laws.{due}
use Rattle.deterministic.specs.Model.{Task, Model, task_at}
use Rattle.deterministic.specs.Moves.{Move, wake, register, arm, mark, pend, leave, grow, quiet, Growth, plant, seat, close, close_all, fell, Quiet, grant, tally, audit, signals, keep, move, after_doing}
use Rattle.deterministic.specs.Refusals.{caller}
use Rattle.deterministic.specs.Calls.{Call, doings, after}
use Rattle.deterministic.specs.Ending.{ending_of}
use Rattle.deterministic.specs.Run.{Finish, timed_out, stalled, opened, skipped, polled, called, ticked, rung, completed, ended}
use Rattle.deterministic.specs.Acts.{Act, did, poll, skip, call}
use Rattle.deterministic.specs.History.{Round, Close, never, out_of_time, rang, clock_at}
use Rattle.deterministic.specs.Went.{Dealt, Callable, Jumps, jumped_to}

-- an alarm takes the next serial, for the calling task, at a time that the clock has not reached
pub record Arms (a : Alarm) (m : Model) : Type 0 where
  pub serial : a.serial ≡ m.alarms.next
  pub task : a.task ≡ caller m
  pub later : m.clock.time < a.time

-- a registered task is marked that was not
pub record Marks (i : ℕ) (m : Model) : Type 0 where
  pub task : Task
  pub registered : task_at i m ≡ Some task
  pub unmarked : task.marked ≡ false

-- a context with the next serial comes under one that the task holds, which calls
pub record Plants (serial parent task : ℕ) (m : Model) : Type 0 where
  pub next : serial ≡ m.tree.next
  pub held : open_for task parent m.tree ≡ true
  pub caller_is : task ≡ caller m

-- the next task is seated at a context that the calling task holds and that is not aborted, and has a context with the next serial
pub record Seats (task context serial : ℕ) (m : Model) : Type 0 where
  pub next_task : task ≡ m.registry.next
  pub next : serial ≡ m.tree.next
  pub held : open_for (caller m) context m.tree ≡ true
  pub unaborted : aborted_at context m.tree ≡ false

-- what is known of the tree's growth when it grows
abbrev pub Grows : Growth → Model → Type 0
Grows (plant serial parent task) m = Plants serial parent task m
Grows (seat task context serial) m = Seats task context serial m
Grows (close context) m = open_for (caller m) context m.tree ≡ true
Grows (close_all task) m = Unit {0}
Grows (fell node) m = Unit {0}

-- what is known of a quiet move when it is made: it counts no completed round
abbrev pub Quiets : Quiet → Model → Type 0
Quiets grant m = Unit {0}
Quiets (tally counts) m = counts.iterations ≡ m.counts.iterations
Quiets (audit event) m = Unit {0}
Quiets (signals new) m = Unit {0}
Quiets (keep code) m = Unit {0}

-- what is known of a move when it is made
abbrev pub Fits : Move → Model → Type 0
Fits (wake i cause) m = Unit {0}
Fits (register i label node) m = i ≡ m.registry.next
Fits (arm a) m = Arms a m
Fits (mark i) m = Marks i m
Fits (pend i) m = Unit {0}
Fits (leave i ending) m = Unit {0}
Fits (grow g) m = Grows g m
Fits (quiet q) m = Quiets q m

-- so of each of these moves, at the executor where it is made
unfoldable pub Fit : List Move → Model → Type 0
Fit [] m = Unit {0}
Fit (a ∷ more) m = Fits a m × Fit more (move a m)

-- an act leads from an executor to another
pub data Did (m : Model) : Act → Model → Type 0 where
  -- a move is made
  moves : (a : Move) → Fits a m → Did m (did a) (move a m)
  -- a registered task is dealt
  polls : (t : Task) (calls : Bool) (ids : List ℕ) → Dealt t.id ids m → task_at t.id m ≡ Some t → Did m (poll t.id calls) (polled t calls ids m)
  -- an id is dealt that is not registered
  skips : (i : ℕ) (ids : List ℕ) → Dealt i ids m → task_at i m ≡ None → Did m (skip i) (skipped i ids m)
  -- a body is called
  calls : (t : Task) → Callable t m → Did m (call t.id) (called t.id m)

-- acts, one after another
pub data Path : Model → List Act → Model → Type 0 where
  here : {m : Model} → Path m [] m
  next : {m n o : Model} {a : Act} {more : List Act} → Did m a n → Path n more o → Path m (a ∷ more) o

-- what comes as a whole, with its acts
pub data Step (m : Model) : List Act → Model → Type 0 where
  -- a registered task is dealt
  task_dealt : (t : Task) (calls : Bool) (ids : List ℕ) → Dealt t.id ids m → task_at t.id m ≡ Some t → Step m (poll t.id calls ∷ []) (polled t calls ids m)
  -- an id is dealt that is not registered
  id_skipped : (i : ℕ) (ids : List ℕ) → Dealt i ids m → task_at i m ≡ None → Step m (skip i ∷ []) (skipped i ids m)
  -- a body is called
  body_called : (t : Task) → Callable t m → Step m (call t.id ∷ []) (called t.id m)
  -- the body asks something of the executor
  body_asks : (c : Call) → Step m (map did (doings c m)) (after c m)
  -- a registered task ends; the root does not, unless it is marked
  task_ends : (i : ℕ) (t : Task) (how : Ending) (code : Option ℕ) → task_at i m ≡ Some t → (t.marked ≡ false → 0 < i) →
      Step m (map did (ending_of i how code m)) (after_doing (ending_of i how code) m)
  -- a body came to pending: its task is registered, and not marked unless it is the root
  body_pends : (i : ℕ) (t : Task) → task_at i m ≡ Some t → (0 < i → t.marked ≡ false) → Step m (did (pend i) ∷ []) (move (pend i) m)

-- steps, one after another, with all their acts
pub data Steps : Model → List Act → Model → Type 0 where
  still : {m : Model} → Steps m [] m
  onward : {m n o : Model} {acts more : List Act} → Step m acts n → Steps n more o → Steps m (acts ++ more) o

-- the alarms that a close rings from an executor on, after this jump
abbrev pub rings_of : Option ℕ → Model → List Alarm
rings_of j m = due (clock_at (m.clock.time + m.clock.cycle) j) m.alarms.alarms

-- the close of a round from the executor before the clock moves: what is told of it, the executor after it, and how the run
-- ended if it did
pub data Closed (m : Model) : Close → Model → Option Finish → Type 0 where
  -- the run has ended before the clock moved
  before : (f : Finish) → Closed m never m (Some f)
  -- all is dealt, the clock has moved, and the run is out of time
  timeout : {j : Option ℕ} → m.queues.drained ≡ [] → Jumps (ticked m) j →
      Closed m (out_of_time (m.clock.time + m.clock.cycle) j) (jumped_to j (ticked m)) (Some timed_out)
  -- all is dealt, the alarms that are due have rung, and nothing waits
  stalls : {j : Option ℕ} → m.queues.drained ≡ [] → Jumps (ticked m) j → (rung (jumped_to j (ticked m))).queues.waiting ≡ [] →
      Closed m (rang (m.clock.time + m.clock.cycle) j (rings_of j m)) (rung (jumped_to j (ticked m))) (Some stalled)
  -- all is dealt, the alarms that are due have rung, something waits, and the round is complete
  completes : {j : Option ℕ} → m.queues.drained ≡ [] → Jumps (ticked m) j → 0 < length (rung (jumped_to j (ticked m))).queues.waiting →
      Closed m (rang (m.clock.time + m.clock.cycle) j (rings_of j m)) (completed (rung (jumped_to j (ticked m)))) None

-- one round: what waits is drained in some order, steps lead to the close, and the close leads on
pub record Played (m : Model) (r : Round) (n : Model) (f : Option Finish) : Type 0 where
  pub same : IsPermutation m.queues.waiting r.drained
  pub closing : Model
  pub steps : Steps (opened r.drained m) r.acts closing
  pub closed : Closed closing r.close n f

-- rounds until the run ends
pub data Story : Model → List Round → Model → Finish → Type 0 where
  -- it is out of time at a round's opening
  shut : {m : Model} → Story m [] (ended timed_out m) timed_out
  -- it ends in a round
  over : {m n : Model} {r : Round} {f : Finish} → Played m r n (Some f) → Story m (r ∷ []) (ended f n) f
  -- a round is complete, and it goes on
  on : {m n o : Model} {r : Round} {more : List Round} {f : Finish} → Played m r n None → Story n more o f → Story m (r ∷ more) o f
