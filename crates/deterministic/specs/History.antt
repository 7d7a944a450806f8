-- The history of a run, round by round, and the words in which its laws are said.
--
-- round     the ids drained, as they were arranged; what was done until the close; the close
-- close     never, if the run ended before the clock moved; out of time, once the clock had moved; or with the alarms rung
-- place     a law of a round is said with the rounds before it and those after it
use Rattle.std.specs.Prelude.{◌≡◌, ℕ, ◌+◌, ◌<◌, ◌≤◌, Bool, true, false, cond, ◌&&◌, List, [], ◌∷◌, ◌++◌, map, length, Some, None, Option, ◌==◌, nat_le}
use Rattle.keyed.specs.Choices.{given}
use Rattle.keyed.specs.Members.{times}
use Rattle.entry.specs.declared.Entry.{Entry}
use Rattle.entry.specs.declared.Entry.TheVariants as entry
use Rattle.alarms.specs.declared.Alarm.{Alarm}
use Rattle.alarms.specs.Laws.{Before}
use Rattle.deterministic.specs.Model.{Queues}
use Rattle.deterministic.specs.Below.{Tiding}
use Rattle.deterministic.specs.Acts.{Act, queuing, dealing, arming, writing, telling, all_of}

pub data Close : Type 0 where
  -- the run ended before the clock moved
  never : Close
  -- the clock moved to this time and jumped or not, and the run was out of time
  out_of_time : (ticked : ℕ) (jumped : Option ℕ) → Close
  -- the clock moved to this time and jumped or not, and these alarms rang
  rang : (ticked : ℕ) (jumped : Option ℕ) (alarms : List Alarm) → Close

pub record Round : Type 0 where
  pub drained : List ℕ
  pub acts : List Act
  pub close : Close

-- the clock after its cycle and its jump
abbrev pub clock_at : ℕ → Option ℕ → ℕ
clock_at ticked None = ticked
clock_at ticked (Some jumped) = jumped

-- the clock at which a close rings alarms, if it comes to that
abbrev pub ringing_time : Close → Option ℕ
ringing_time never = None
ringing_time (out_of_time ticked jumped) = None
ringing_time (rang ticked jumped alarms) = Some (clock_at ticked jumped)

-- the alarms that a close rings
abbrev pub rung_in : Close → List Alarm
rung_in never = []
rung_in (out_of_time ticked jumped) = []
rung_in (rang ticked jumped alarms) = alarms

-- the alarms that a round rings
abbrev pub rung : Round → List Alarm
rung r = rung_in r.close

-- the alarms that a round arms
abbrev pub armed : Round → List Alarm
armed r = all_of arming r.acts

-- the ids that a round deals
abbrev pub dealt : Round → List ℕ
dealt r = all_of dealing r.acts

-- the ids that a round queues from its draining on, by its acts and its rings
abbrev pub queued : Round → List ℕ
queued r = all_of queuing r.acts ++ map (λ (a : Alarm). a.task) (rung r)

-- a reading of rounds, one after another
unfoldable pub over : {X : Type 0} → (Round → List X) → List Round → List X
over reading [] = []
over reading (r ∷ more) = reading r ++ over reading more

-- what is said of each round, with the rounds before it and those after it
abbrev pub Each : (List Round → Round → List Round → Type 0) → List Round → Type 0
Each Says rounds = (before : List Round) (r : Round) (after : List Round) → rounds ≡ before ++ r ∷ after → Says before r after

-- QUEUING. rounds, the first of which drains what was queued so often before: each deals the id as often as it was queued from
-- the draining before to its own, the last one less what stays drained at the end; what was queued since the last draining
-- waits at the end
unfoldable pub NextRound : ℕ → ℕ → List Round → Queues → Type 0
NextRound i often [] end = (times i end.waiting ≡ often) × (times i end.drained ≡ 0)
NextRound i often (r ∷ []) end = (times i (dealt r) + times i end.drained ≡ often) × (times i end.waiting ≡ times i (queued r))
NextRound i often (r ∷ next ∷ more) end = (times i (dealt r) ≡ often) × NextRound i (times i (queued r)) (next ∷ more) end

-- 1 for a completed round: its alarms rang, and something waits then
abbrev pub complete_by : List ℕ → Close → ℕ
complete_by queue never = 0
complete_by queue (out_of_time ticked jumped) = 0
complete_by queue (rang ticked jumped alarms) = cond (length queue == 0) 0 1

-- how many rounds are complete
unfoldable pub completed : List Round → ℕ
completed [] = 0
completed (r ∷ more) = complete_by (queued r) r.close + completed more

-- THE LEDGER. a jump is written
abbrev pub jump_entries : Option ℕ → List Entry
jump_entries None = []
jump_entries (Some t) = entry.Jump t ∷ []

-- a ring is written with its task and time
abbrev pub ring_entry : Alarm → Entry
ring_entry a = entry.Ring a.task a.time

-- the entries of a close
abbrev pub close_entries : Close → List Entry
close_entries never = []
close_entries (out_of_time ticked jumped) = entry.Tick ticked ∷ jump_entries jumped
close_entries (rang ticked jumped alarms) = entry.Tick ticked ∷ (jump_entries jumped ++ map ring_entry alarms)

-- the entries of a round: its draining, its acts, its close
abbrev pub round_entries : Round → List Entry
round_entries r = entry.Round (length r.drained) ∷ (all_of writing r.acts ++ close_entries r.close)

-- ALARMS. the same alarm: no serial is used twice, so the serials would do
abbrev pub same : Alarm → Alarm → Bool
same a b = a.serial == b.serial && (a.time == b.time && a.task == b.task)

-- how often an alarm stands in a list
unfoldable pub count : Alarm → List Alarm → ℕ
count a [] = 0
count a (b ∷ more) = cond (same a b) 1 0 + count a more

-- no ring of the alarm in these rounds
abbrev pub Silent : Alarm → List Round → Type 0
Silent a rounds = count a (over rung rounds) ≡ 0

-- a time is reached by the clock at which a close rings
abbrev pub reached : ℕ → Close → Bool
reached t c = given (ringing_time c) false (nat_le t)

-- the alarm rings once, at the close of the first of these rounds whose clock has reached it, and at no other; never, if there
-- is no such round
unfoldable pub RingsOnce : Alarm → List Round → Type 0
RingsOnce a [] = Unit {0}
RingsOnce a (r ∷ more) =
    (reached a.time r.close ≡ true → (count a (rung r) ≡ 1) × Silent a more)
    × (reached a.time r.close ≡ false → (count a (rung r) ≡ 0) × RingsOnce a more)

-- an alarm that a round arms is armed once, in this round alone; it rang in no round before, and from this round on it rings
-- as it should
pub record KeptAlarm (before : List Round) (r : Round) (after : List Round) (a : Alarm) : Type 0 where
  pub once : count a (armed r) ≡ 1
  pub not_before : count a (over armed before) ≡ 0
  pub not_after : count a (over armed after) ≡ 0
  pub silent : Silent a before
  pub rings : RingsOnce a (r ∷ after)

-- every alarm that is armed is kept
abbrev pub EveryAlarmRings : List Round → Round → List Round → Type 0
EveryAlarmRings before r after = (a : Alarm) → 0 < count a (armed r) → KeptAlarm before r after a

-- nothing rings that was not armed in this round or before
abbrev pub OnlyArmedRing : List Round → Round → List Round → Type 0
OnlyArmedRing before r after = (a : Alarm) → 0 < count a (rung r) → 0 < count a (over armed before) + count a (armed r)

-- each alarm rings before those behind it: earliest first, equal times in arming order
unfoldable pub InOrder : List Alarm → Type 0
InOrder [] = Unit {0}
InOrder (a ∷ []) = Unit {0}
InOrder (a ∷ b ∷ more) = Before a b × InOrder (b ∷ more)

-- a round rings in order
abbrev pub RingsInOrder : List Round → Round → List Round → Type 0
RingsInOrder before r after = InOrder (rung r)

-- as the ledger shows it, by task and time: how many alarms of a list are for the task at the time
unfoldable pub for_at : ℕ → ℕ → List Alarm → ℕ
for_at i t [] = 0
for_at i t (a ∷ more) = cond (i == a.task && t == a.time) 1 0 + for_at i t more

-- rounds, before which so many alarms for the task at the time are pending: a round whose clock has reached the time rings
-- these and those that it armed; another rings none
unfoldable pub RingsByTime : ℕ → ℕ → ℕ → List Round → Type 0
RingsByTime i t pending [] = Unit {0}
RingsByTime i t pending (r ∷ more) =
    (reached t r.close ≡ true → (for_at i t (rung r) ≡ pending + for_at i t (armed r)) × RingsByTime i t 0 more)
    × (reached t r.close ≡ false → (for_at i t (rung r) ≡ 0) × RingsByTime i t (pending + for_at i t (armed r)) more)

-- THE CLOCK. the clock after a close
abbrev pub clock_by : ℕ → Close → ℕ
clock_by t never = t
clock_by t (out_of_time ticked jumped) = clock_at ticked jumped
clock_by t (rang ticked jumped alarms) = clock_at ticked jumped

-- the clock after rounds
unfoldable pub clock_after : ℕ → List Round → ℕ
clock_after t [] = t
clock_after t (r ∷ more) = clock_after (clock_by t r.close) more

-- a close moves the clock by one cycle; where it does not, or is out of time, no round follows
abbrev pub moves_by : ℕ → ℕ → Close → List Round → Type 0
moves_by t cycle never after = after ≡ []
moves_by t cycle (out_of_time ticked jumped) after = (ticked ≡ t + cycle) × (after ≡ [])
moves_by t cycle (rang ticked jumped alarms) after = ticked ≡ t + cycle

-- each round moves the clock so
abbrev pub ClockMoves : ℕ → ℕ → List Round → Round → List Round → Type 0
ClockMoves start cycle before r after = moves_by (clock_after start before) cycle r.close after

-- an alarm is pending: it was armed in these rounds or in this one, and rang in none before this one
pub record Pending (before : List Round) (r : Round) (a : Alarm) : Type 0 where
  pub is_armed : 0 < count a (over armed before) + count a (armed r)
  pub not_rung : Silent a before

-- a jump: all that was drained has been dealt and nothing is queued since, and it goes forward to the earliest pending alarm
pub record Jumped (before : List Round) (r : Round) (from to : ℕ) : Type 0 where
  pub all_dealt : dealt r ≡ r.drained
  pub idle : all_of queuing r.acts ≡ []
  pub forward : from < to
  pub alarm : Alarm
  pub time : alarm.time ≡ to
  pub pending : Pending before r alarm
  pub earliest : (a : Alarm) → Pending before r a → to ≤ a.time

-- no jump: something is queued, no alarm is pending, or one is due already
pub data Stayed (before : List Round) (r : Round) (at : ℕ) : Type 0 where
  busy : 0 < length (all_of queuing r.acts) → Stayed before r at
  no_alarm : ((a : Alarm) → Pending before r a → ⊥) → Stayed before r at
  due : (a : Alarm) → Pending before r a → a.time ≤ at → Stayed before r at

-- the clock jumped from its cycle's time, or stayed there
abbrev pub jump_by : List Round → Round → ℕ → Option ℕ → Type 0
jump_by before r ticked None = Stayed before r ticked
jump_by before r ticked (Some to) = Jumped before r ticked to

-- how a close jumped
abbrev pub jumps_by : List Round → Round → Close → Type 0
jumps_by before r never = Unit {0}
jumps_by before r (out_of_time ticked jumped) = jump_by before r ticked jumped
jumps_by before r (rang ticked jumped alarms) = jump_by before r ticked jumped

-- each round's clock jumps so
abbrev pub ClockJumps : List Round → Round → List Round → Type 0
ClockJumps before r after = jumps_by before r r.close

-- THE TREE. what rounds tell of it, act by act
abbrev pub told : List Round → List Tiding
told rounds = over (λ r. all_of telling r.acts) rounds
