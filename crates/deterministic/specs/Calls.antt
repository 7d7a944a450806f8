-- The calls of a body: why each is refused, what it answers, and what it does.
--
-- refusal   the first condition that a call fails, in the order of the tests, or none: then it is granted
-- answer    what a granted call answers
-- doings    the moves that a call makes; a refused call makes none, but a spawn on an aborted context spends the context
--           and counts as asked for
use Rattle.std.specs.Prelude.{ℕ, ◌+◌, Bool, cond, List, [], ◌∷◌, ◌++◌, ℤ, Some, None, Option, Result}
use Rattle.keyed.specs.Choices.{given, answered}
use Rattle.reasons.specs.declared.cause.Cause.TheVariants as cause
use Rattle.lineage.specs.Family.{aborted_at}
use Rattle.supervision.specs.Calls.{link_count}
use Rattle.alarms.specs.Model.{alarm_of}
use Rattle.signal.specs.Model as stops
use Rattle.signal.specs.Model.{stop_wakes, completion_wakes}
use Rattle.auditor.specs.Events as event
use Rattle.deterministic.specs.declared.refusal.Refusal.{Refusal}
use Rattle.deterministic.specs.declared.refusal.Refusal.TheVariants as refused
use Rattle.deterministic.specs.Model.{Task, Model, task_at, one_spawned, one_running}
use Rattle.deterministic.specs.Moves as moved
use Rattle.deterministic.specs.Moves.{Move, register, arm, mark, grow, plant, seat, quiet, grant, tally, audit, signals, moves, wakes}
use Rattle.deterministic.specs.Refusals.{◌else◌, caller, call_granted, room, signal_held, stop_known, id_known, not_root, context_held, label_short, not_aborted, task_free, node_left, link_left, place_free, time_fits, reached, alarm_fits}

pub data Call : Type 0 where
  -- asks for the time
  current : Call
  -- asks for a context under one that the task holds
  child : (context : ℕ) → Call
  -- closes a context
  close : (context : ℕ) → Call
  -- asks how many links a context's node has, dead ones included
  links : (context : ℕ) → Call
  -- spawns a task of this label on a context
  spawn : (context : ℕ) (label : List ℕ) → Call
  -- sleeps for a duration, by the alarm of a serial if one is given
  sleep : (duration : ℕ) (serial : Option ℕ) → Call
  -- sleeps until a time, by the alarm of a serial if one is given
  sleep_until : (time : ℕ) (serial : Option ℕ) → Call
  -- queues an id
  wake : (task : ℕ) → Call
  -- marks a task aborted
  abort : (task : ℕ) → Call
  -- stops with a value
  stop : (value : ℤ) → Call
  -- takes a signal
  stopped : Call
  -- asks the signal for the stop value
  signal : Call
  -- asks whether the stop is complete
  completed : Call
  -- lets the signal go
  let_go : Call

-- why `child` is refused
abbrev pub child_refusal : ℕ → Model → Option Refusal
child_refusal c m = call_granted m else context_held c m else node_left m else link_left c m

-- why `spawn` is refused
abbrev pub spawn_refusal : ℕ → List ℕ → Model → Option Refusal
spawn_refusal c label m =
    room m else context_held c m else label_short label else not_aborted c m else task_free m else node_left m else link_left c m else place_free m

-- why `sleep_until` is refused
abbrev pub sleep_until_refusal : ℕ → Option ℕ → Model → Option Refusal
sleep_until_refusal t serial m = room m else alarm_fits t serial m

-- why `sleep` is refused
abbrev pub sleep_refusal : ℕ → Option ℕ → Model → Option Refusal
sleep_refusal d serial m = room m else time_fits d m else alarm_fits (m.clock.time + d) serial m

-- why a call is refused; where there is no refusal, it is granted
abbrev pub refusal : Call → Model → Option Refusal
refusal current m = call_granted m
refusal (child c) m = child_refusal c m
refusal (close c) m = call_granted m else context_held c m
refusal (links c) m = call_granted m else context_held c m
refusal (spawn c label) m = spawn_refusal c label m
refusal (sleep d serial) m = sleep_refusal d serial m
refusal (sleep_until t serial) m = sleep_until_refusal t serial m
refusal (wake i) m = room m else id_known i m else place_free m
refusal (abort i) m = room m else id_known i m else not_root i
refusal (stop value) m = room m
refusal stopped m = call_granted m
refusal signal m = call_granted m else signal_held m
refusal completed m = call_granted m else stop_known m
refusal let_go m = room m

-- `child` answers the new context and whether it is already aborted
abbrev pub child_answer : ℕ → Model → ℕ × Bool
child_answer c m = (m.tree.next, aborted_at c m.tree)

-- `links` answers the number of links, dead ones included
abbrev pub links_answer : ℕ → Model → ℕ
links_answer c m = link_count c m.tree

-- `spawn` answers the new task and its context
abbrev pub spawn_answer : Model → ℕ × ℕ
spawn_answer m = (m.registry.next, m.tree.next)

-- the serial that was given, or that of the alarm that is armed now
abbrev pub serial_or_new : Option ℕ → Model → ℕ
serial_or_new None m = m.alarms.next
serial_or_new (Some serial) m = serial

-- `sleep_until` answers none if the clock has reached the time, else the serial of the alarm that stands for it
abbrev pub sleep_until_answer : ℕ → Option ℕ → Model → Option ℕ
sleep_until_answer t serial m = cond (reached t m) None (Some (serial_or_new serial m))

-- `signal` answers the first stop value, or none while it is pending
abbrev pub signal_answer : Model → Option ℤ
signal_answer m = m.stop.value

-- `completed` answers whether the stop is complete
abbrev pub completed_answer : Model → Bool
completed_answer m = stops.complete m.stop

pub data Answer : Type 0 where
  -- the call answers nothing
  nothing : Answer
  -- the clock
  time : ℕ → Answer
  -- a context, and whether it is aborted
  context : ℕ → Bool → Answer
  -- a number of links
  count : ℕ → Answer
  -- a task and its context
  task : ℕ → ℕ → Answer
  -- none where the sleep is over, else the serial of the alarm for which it waits
  slept : Option ℕ → Answer
  -- the stop value, or none while it is pending
  value : Option ℤ → Answer
  -- whether the stop is complete
  completion : Bool → Answer

-- what a granted call answers
abbrev pub answer : Call → Model → Answer
answer current m = time m.clock.time
answer (child c) m = context (child_answer c m).0 (child_answer c m).1
answer (close c) m = nothing
answer (links c) m = count (links_answer c m)
answer (spawn c label) m = task (spawn_answer m).0 (spawn_answer m).1
answer (sleep d serial) m = slept (sleep_until_answer (m.clock.time + d) serial m)
answer (sleep_until t serial) m = slept (sleep_until_answer t serial m)
answer (wake i) m = nothing
answer (abort i) m = nothing
answer (stop v) m = nothing
answer stopped m = nothing
answer signal m = value (signal_answer m)
answer completed m = completion (completed_answer m)
answer let_go m = nothing

-- what a call gives: its refusal, or its answer
abbrev pub reply : Call → Model → Result Answer Refusal
reply c m = answered (refusal c m) (answer c m)

-- a task that is neither ended nor marked is marked, and woken if it has pended before
abbrev pub marking_task : Task → List Move
marking_task t = cond t.marked [] (mark t.id ∷ cond t.pended (moved.wake t.id cause.Abort ∷ []) [])

-- the task of an id is marked; nothing happens to one that has ended
abbrev pub marking : ℕ → Model → List Move
marking i m = given (task_at i m) [] marking_task

-- an alarm is armed if the time is not reached and no serial is given
abbrev pub arming : ℕ → Option ℕ → Model → List Move
arming t None m = cond (reached t m) [] (arm (alarm_of m.alarms (caller m) t) ∷ [])
arming t (Some serial) m = []

-- a task is counted as spawned and running, seated at the context's node, and registered
abbrev pub spawning : ℕ → List ℕ → Model → List Move
spawning c label m =
    let i = m.registry.next in
    quiet (tally (one_running (one_spawned m.counts))) ∷ grow (seat i c m.tree.next) ∷ register i label c ∷ []

-- the first stop wakes those waiting; every stop is audited
abbrev pub stopping : ℤ → Model → List Move
stopping v m = quiet (audit (event.stop v)) ∷ quiet (signals (stops.stopped_by v m.stop)) ∷ wakes cause.Stop (stop_wakes m.stop)

-- a signal goes, and completion wakes those who asked for it if it comes with this
abbrev pub letting_go : Model → List Move
letting_go m =
    let S = stops.let_go (caller m) m.stop in
    quiet (signals S) ∷ wakes cause.Stop (completion_wakes m.stop S)

-- what a granted call does, beyond being granted
abbrev pub does : Call → Model → List Move
does current m = []
does (child c) m = grow (plant m.tree.next c (caller m)) ∷ []
does (close c) m = grow (moved.close c) ∷ []
does (links c) m = []
does (spawn c label) m = spawning c label m
does (sleep d serial) m = arming (m.clock.time + d) serial m
does (sleep_until t serial) m = arming t serial m
does (wake i) m = moved.wake i cause.Wake ∷ []
does (abort i) m = marking i m
does (stop v) m = stopping v m
does stopped m = quiet (audit event.stopped) ∷ quiet (signals (stops.given (caller m) m.stop)) ∷ []
does signal m = quiet (signals (stops.awaiting (caller m) m.stop)) ∷ []
does completed m = quiet (signals (stops.asking (caller m) m.stop)) ∷ []
does let_go m = letting_go m

-- a spawn on an aborted context is counted as asked for, and spends the context
abbrev pub spending : ℕ → Model → List Move
spending c m = quiet (tally (one_spawned m.counts)) ∷ grow (moved.close c) ∷ []

-- the moves, where the refusal is that of an aborted context
abbrev pub if_aborted : Refusal → List Move → List Move
if_aborted refused.NoRoom spent = []
if_aborted refused.UnknownTask spent = []
if_aborted refused.NotOpen spent = []
if_aborted refused.LabelTooLong spent = []
if_aborted refused.TooManyTasks spent = []
if_aborted refused.TooManyNodes spent = []
if_aborted refused.TooManyLinks spent = []
if_aborted refused.ContextAborted spent = spent
if_aborted refused.TooManyWaiting spent = []
if_aborted refused.TooManyAlarms spent = []
if_aborted refused.NotOwnAlarm spent = []
if_aborted refused.TimeTooLarge spent = []
if_aborted refused.NoSignal spent = []

-- what a refused call does all the same: only a spawn does something, on an aborted context
abbrev pub despite : Refusal → Call → Model → List Move
despite r current m = []
despite r (child c) m = []
despite r (close c) m = []
despite r (links c) m = []
despite r (spawn c label) m = if_aborted r (spending c m)
despite r (sleep d serial) m = []
despite r (sleep_until t serial) m = []
despite r (wake i) m = []
despite r (abort i) m = []
despite r (stop v) m = []
despite r stopped m = []
despite r signal m = []
despite r completed m = []
despite r let_go m = []

-- the moves of a call that is granted or refused so
abbrev pub doings_by : Option Refusal → Call → Model → List Move
doings_by None c m = quiet grant ∷ does c m
doings_by (Some r) c m = despite r c m

-- the moves of a call
abbrev pub doings : Call → Model → List Move
doings c m = doings_by (refusal c m) c m

-- the executor after a call
abbrev pub after : Call → Model → Model
after c m = moves (doings c m) m

-- the executor after calls, one after another
abbrev pub apply : List Call → Model → Model
apply [] m = m
apply (c ∷ cs) m = apply cs (after c m)

-- the moves of calls, one after another
abbrev pub doings_of : List Call → Model → List Move
doings_of [] m = []
doings_of (c ∷ cs) m = doings c m ++ doings_of cs (after c m)
