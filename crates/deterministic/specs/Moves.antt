-- The single moves of which all that a body's calls and a task's end do to an executor is made.
--
-- growth   what happens to the supervision tree
-- quiet    what touches neither queues, registry, tree, alarms, clock nor ledger
-- move     one of these, or what queues, registers, arms, marks, pends or ends a task
use Rattle.std.specs.Prelude.{ℕ, ◌+◌, List, [], ◌∷◌, ◌++◌, map, Some}
use Rattle.entry.specs.declared.Entry.TheVariants as entry
use Rattle.reasons.specs.declared.cause.Cause.{Cause}
use Rattle.reasons.specs.declared.ending.Ending.{Ending}
use Rattle.lineage.specs.Family.{Family}
use Rattle.lineage.specs.Cascade.{cascaded}
use Rattle.supervision.specs.Calls.{with_child, closed, seated, closed_all, left}
use Rattle.alarms.specs.declared.Alarm.{Alarm}
use Rattle.alarms.specs.Model.{Bells, placed}
use Rattle.signal.specs.Model.{Stops, entered}
use Rattle.auditor.specs.Events.{Event, digest_after}
use Rattle.deterministic.specs.declared.counts.Counts.{Counts}
use Rattle.deterministic.specs.declared.body.Body.{Body}
use Rattle.deterministic.specs.Model.{Faults, Model, with_registry, with_tree, with_alarms, with_stop, with_counts, noted, queued, with_task, with_changed, without_task, marked, pended, one_not_running}

pub data Growth : Type 0 where
  -- the context of this serial comes under this parent, and this task holds it
  plant : (serial parent task : ℕ) → Growth
  -- this context is spent: this task is seated at its node, and holds the context of a new child with this serial
  seat : (task context serial : ℕ) → Growth
  -- this context is closed
  close : (context : ℕ) → Growth
  -- every context that this task holds is closed
  close_all : (task : ℕ) → Growth
  -- this node and all below it are aborted
  fell : (node : ℕ) → Growth

-- the tree after one of these; what nothing keeps alive has died in it
abbrev pub grown : Growth → Family → Family
grown (plant serial parent task) F = with_child task parent F
grown (seat task context serial) F = seated context task F
grown (close context) F = closed context F
grown (close_all task) F = closed_all task F
grown (fell node) F = (cascaded node F).0

pub data Quiet : Type 0 where
  -- a call is granted
  grant : Quiet
  -- the counts are these
  tally : Counts → Quiet
  -- this event is audited
  audit : Event → Quiet
  -- the stop signal is in this state
  signals : Stops → Quiet
  -- this fault is kept for the root
  keep : (code : ℕ) → Quiet

-- the stop signal after a quiet move
abbrev pub stop_after : Quiet → Stops → Stops
stop_after grant S = S
stop_after (tally counts) S = S
stop_after (audit event) S = S
stop_after (signals new) S = new
stop_after (keep code) S = S

-- the faults after a quiet move
abbrev pub faults_after : Quiet → Faults → Faults
faults_after grant f = f
faults_after (tally counts) f = f
faults_after (audit event) f = f
faults_after (signals new) f = f
faults_after (keep code) f = record { caught = f.caught; kept = Some code }

-- the counts after a quiet move
abbrev pub counts_after : Quiet → Counts → Counts
counts_after grant c = c
counts_after (tally counts) c = counts
counts_after (audit event) c = c
counts_after (signals new) c = c
counts_after (keep code) c = c

-- the digest after a quiet move
abbrev pub audit_after : Quiet → List ℕ → List ℕ
audit_after grant d = d
audit_after (tally counts) d = d
audit_after (audit event) d = digest_after d event
audit_after (signals new) d = d
audit_after (keep code) d = d

-- the body after a quiet move
abbrev pub body_after : Quiet → Body → Body
body_after grant b = record { task = b.task; granted = b.granted + 1 }
body_after (tally counts) b = b
body_after (audit event) b = b
body_after (signals new) b = b
body_after (keep code) b = b

-- the executor after a quiet move
abbrev pub quieted : Quiet → Model → Model
quieted q m = record {
  clock = m.clock;
  queues = m.queues;
  registry = m.registry;
  tree = m.tree;
  alarms = m.alarms;
  stop = stop_after q m.stop;
  faults = faults_after q m.faults;
  counts = counts_after q m.counts;
  digest = audit_after q m.digest;
  ledger = m.ledger;
  body = body_after q m.body;
}

pub data Move : Type 0 where
  -- this id is queued, for this cause
  wake : (task : ℕ) → Cause → Move
  -- a task of this id and label is registered at this node, and queued
  register : (task : ℕ) (label : List ℕ) (node : ℕ) → Move
  -- this alarm is armed
  arm : Alarm → Move
  -- this task is marked aborted, and is no longer counted as running
  mark : (task : ℕ) → Move
  -- this task's body has come to pending
  pend : (task : ℕ) → Move
  -- this task ends, and leaves the registry and its node
  leave : (task : ℕ) → Ending → Move
  grow : Growth → Move
  quiet : Quiet → Move

-- an alarm stands in its place, and its serial is taken
abbrev pub armed : Alarm → Bells → Bells
armed a B = record { alarms = placed a B.alarms; next = B.next + 1 }

-- the executor after a move
abbrev pub move : Move → Model → Model
move (wake i cause) m = queued i (entry.Wake i cause) m
move (register i label node) m = queued i (entry.Reg i) (with_stop (entered i m.stop) (with_registry (with_task i label (Some node) m.registry) m))
move (arm a) m = noted (entry.Arm a.task a.time) (with_alarms (armed a m.alarms) m)
move (mark i) m = noted (entry.Mark i) (with_counts (one_not_running m.counts) (with_registry (with_changed marked i m.registry) m))
move (pend i) m = with_registry (with_changed pended i m.registry) m
move (leave i ending) m = noted (entry.Done i ending) (with_tree (left i m.tree) (with_registry (without_task i m.registry) m))
move (grow g) m = with_tree (grown g m.tree) m
move (quiet q) m = quieted q m

-- the executor after moves, one after another
abbrev pub moves : List Move → Model → Model
moves [] m = m
moves (a ∷ more) m = moves more (move a m)

-- what is done is told by moves, which may hang on the executor
abbrev pub Doing : Type 0
Doing = Model → List Move

infixr 25 ◌then◌
-- the one, and then the other where that has led
abbrev pub ◌then◌ : Doing → Doing → Doing
(f then g) m = let first = f m in first ++ g (moves first m)

-- the executor after a doing
abbrev pub after_doing : Doing → Model → Model
after_doing f m = moves (f m) m

-- these ids are queued in this order, for one cause
abbrev pub wakes : Cause → List ℕ → List Move
wakes cause ids = map (λ i. wake i cause) ids
