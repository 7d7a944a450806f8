-- That the bounds of an executor are kept: by every call of a body, by the end of a task, and by the steps of a round.
--
-- steady    sound and calm: what holds between the steps of a round
-- bounded   steady, with entries to spare: what holds while a body is called
use Rattle.std.specs.Prelude.{◌≡◌, ℕ, ◌+◌, ◌^◌, ◌<◌, ◌≤◌, Bool, true, List, length, None, Option}
use Rattle.entry.specs.declared.Entry.{Entry}
use Rattle.entry.specs.declared.Entry.TheVariants as entry
use Rattle.ledger.specs.Book.{empty, right_size}
use Rattle.reasons.specs.declared.ending.Ending.{Ending}
use Rattle.supervision.specs.Calls.{seat_of}
use Rattle.deterministic.specs.declared.clock.Clock.{Clock}
use Rattle.deterministic.specs.declared.outcome.Outcome.{Outcome}
use Rattle.deterministic.specs.Model.{Task, Model, free, queued}
use Rattle.deterministic.specs.Moves.{move, pend, after_doing}
use Rattle.deterministic.specs.Calls.{Call, after, apply}
use Rattle.deterministic.specs.Ending.{ending_of}
use Rattle.deterministic.specs.Run.{opened, skipped, polled, called, settle, ticked, leapt, rung, completed}
use Rattle.deterministic.specs.Start.{idle_at}
use Rattle.deterministic.specs.Bounds.{Sound, Calm, Spare, unmarked}

-- what holds between the steps of a round
pub record Steady (m : Model) : Type 0 where
  pub sound : Sound m
  pub calm : Calm m

-- what holds while a body is called
pub record Bounded (m : Model) : Type 0 where
  pub sound : Sound m
  pub calm : Calm m
  pub spare : Spare m

-- every call keeps the bounds, whether it is granted or refused
abbrev pub CallsKeep : Type 0
CallsKeep = (c : Call) (m : Model) → Sound m → Calm m → Spare m → Bounded (after c m)

-- and so do calls one after another
abbrev pub TurnsKeep : Type 0
TurnsKeep = (cs : List Call) (m : Model) → Bounded m → Bounded (apply cs m)

-- n follows m by the end of a task, or by less: it writes at most 194 entries
pub record Ended (m n : Model) : Type 0 where
  pub sound : Sound n
  pub calm : Calm n
  pub wrote : free m ≤ free n + 194

-- the end of a task keeps the bounds: it writes at most 64 wakes of completion, one of a fault, a mark and a wake for each of 64
-- tasks, and its own entry
abbrev pub EndsKeep : Type 0
EndsKeep = (i : ℕ) (how : Ending) (code : Option ℕ) (m : Model) → Sound m → Calm m → 194 ≤ free m → Ended m (after_doing (ending_of i how code) m)

-- what follows a body's calls keeps the bounds
abbrev pub OutcomesKeep : Type 0
OutcomesKeep = (i : ℕ) (o : Outcome) (m : Model) → Sound m → Calm m → 194 ≤ free m → Ended m (after_doing (settle i o) m)

-- the steps of a round up to its close, where an entry is free
pub record StepsKeep (m : Model) : Type 0 where
  -- the waiting ids are drained: then nothing waits
  pub opens : (ids : List ℕ) → 0 < free m → Steady (opened ids m)
  pub skips : (i : ℕ) (ids : List ℕ) → Calm m → 0 < free m → Steady (skipped i ids m)
  pub polls : (t : Task) (calls : Bool) (ids : List ℕ) → Calm m → 0 < free m → Steady (polled t calls ids m)
  -- a body is called after its poll was written, and no call of it is granted yet
  pub begins : (t : Task) (calls : Bool) (ids : List ℕ) → Calm m → 0 < free m → Steady (called t.id (polled t calls ids m))
  pub begins_spare : (t : Task) (calls : Bool) (ids : List ℕ) → Calm m → 512 ≤ free m → Bounded (called t.id (polled t calls ids m))
  pub pends : (i : ℕ) → Calm m → Steady (move (pend i) m)

-- every step of a round up to its close keeps the bounds
abbrev pub RoundsKeep : Type 0
RoundsKeep = (m : Model) → Sound m → StepsKeep m

-- a close, step by step: the clock moves, and jumps if it does, the alarms that are due ring, and the round is complete
pub record Closes (m : Model) : Type 0 where
  pub ticks : Sound (ticked m)
  pub ticks_free : free m ≡ free (ticked m) + 1
  pub leaps : Sound (leapt (ticked m))
  pub leaps_free : free m ≤ free (leapt (ticked m)) + 2
  -- before the rings at most 449 ids wait, and after those of 128 alarms at most 577
  pub leaps_waiting : length (leapt (ticked m)).queues.waiting ≤ 449
  pub rings : Sound (rung (leapt (ticked m)))
  pub rings_free : free m ≤ free (rung (leapt (ticked m))) + 130
  pub rings_waiting : length (rung (leapt (ticked m))).queues.waiting ≤ 577
  pub completes : Sound (completed (rung (leapt (ticked m))))

-- a close keeps all but the calm: the next round begins by draining what waits
abbrev pub ClosesKeep : Type 0
ClosesKeep = (m : Model) → Sound m → Calm m → 512 ≤ free m → length m.alarms.alarms ≤ 128 → Closes m

-- the bounds hold at the start
pub record Starts (m : Model) : Type 0 where
  pub sound : Sound m
  pub calm : Calm m
  pub waiting : length m.queues.waiting ≡ 1
  pub spare : 1023 ≤ free m

-- at the start the root is registered and queued, over memory of the right size
abbrev pub StartsKeep : Type 0
StartsKeep = (clock : Clock) (caught : Bool) (memory : List Entry) → right_size memory ≡ true → Starts (queued 0 (entry.Reg 0) (idle_at clock caught (empty memory)))

-- no id, serial or count comes near 2^64, and the id that comes next has no seat yet
pub record Small (m : Model) : Type 0 where
  pub id : m.registry.next + 1 < 2 ^ 64
  pub serial : m.tree.next + 1 < 2 ^ 64
  pub arming : m.alarms.next + 1 < 2 ^ 64
  pub iterations : m.counts.iterations + 1 < 2 ^ 64
  pub spawned : m.counts.spawned + 1 < 2 ^ 64
  pub running : m.counts.running + 1 < 2 ^ 64
  pub polls : m.counts.polls + 1 < 2 ^ 64
  pub granted : m.body.granted + 1 < 2 ^ 64
  pub rows : length m.stop.roll.rows ≤ 64
  pub tasks : length m.registry.tasks ≤ 64
  pub fewer_unmarked : unmarked m.registry.tasks ≤ 64
  pub unseated : seat_of m.registry.next m.tree ≡ None

-- the numbers of a sound executor are small
abbrev pub SoundIsSmall : Type 0
SoundIsSmall = (m : Model) → Sound m → Small m

-- where the bounds hold, the waiting ids, 64 wakes, one fault and a wake for every task that is not marked fit 1,024 places
abbrev pub CalmIsSmall : Type 0
CalmIsSmall = (m : Model) → Sound m → Calm m → length m.queues.waiting + 64 + 1 + unmarked m.registry.tasks ≤ 1024
