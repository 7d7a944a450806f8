-- What an executor stands for.
--
-- clock      the time, by how much each round moves it, and the time at which the run is out of time: nanoseconds since the Unix
--            epoch; without a deadline a run is never out of time
-- queues     waiting, the ids queued for the next round; drained, the ids of this round that are not dealt yet
-- registry   the tasks that were registered and have not ended, and the id that is given out next
-- tree       the supervision tree: nodes, links, contexts
-- alarms     the alarms that stand, in the order in which they ring
-- stop       the stop signal: its value, who holds a signal, who waits, who asked for completion
-- faults     whether faults are caught, and the first fault that was not
-- counts     iterations, spawned, running, polls
-- digest     the audit's digest of all events so far
-- ledger     what is written, and what is blank
-- body       the task whose body is called, and how many of its calls were granted in this poll
use Rattle.std.specs.Prelude.{ℕ, ◌+◌, ◌-◌, Bool, true, false, List, [], ◌∷◌, ◌++◌, Option}
use Rattle.keyed.specs.Keyed.{find, change, without}
use Rattle.entry.specs.declared.Entry.{Entry}
use Rattle.ledger.specs.Book as book
use Rattle.ledger.specs.Book.{Book, written}
use Rattle.lineage.specs.Family.{Family}
use Rattle.alarms.specs.Model.{Bells}
use Rattle.signal.specs.Model.{Stops}
use Rattle.auditor.specs.Events.{Event, digest_after}
use Rattle.deterministic.specs.declared.body.Body.{Body}
use Rattle.deterministic.specs.declared.clock.Clock.{Clock}
use Rattle.deterministic.specs.declared.counts.Counts.{Counts}

-- an id stands in a queue as often as it was queued
pub record Queues : Type 0 where
  pub waiting : List ℕ
  pub drained : List ℕ

-- a registered task: its id, its label's bytes, its node (the root has none), whether it is marked aborted, and whether
-- its body has come to pending before
pub record Task : Type 0 where
  pub id : ℕ
  pub label : List ℕ
  pub node : Option ℕ
  pub marked : Bool
  pub pended : Bool

-- the registered tasks by ascending id, and the id that comes next: every lower one was given out
pub record Registry : Type 0 where
  pub tasks : List Task
  pub next : ℕ

-- a fault is kept if it is not caught and none was kept before
pub record Faults : Type 0 where
  pub caught : Bool
  pub kept : Option ℕ

pub record Model : Type 0 where
  pub clock : Clock
  pub queues : Queues
  pub registry : Registry
  pub tree : Family
  pub alarms : Bells
  pub stop : Stops
  pub faults : Faults
  pub counts : Counts
  pub digest : List ℕ
  pub ledger : Book
  pub body : Body

-- the executor with another clock
abbrev pub with_clock : Clock → Model → Model
with_clock x m = record {
  clock = x;
  queues = m.queues;
  registry = m.registry;
  tree = m.tree;
  alarms = m.alarms;
  stop = m.stop;
  faults = m.faults;
  counts = m.counts;
  digest = m.digest;
  ledger = m.ledger;
  body = m.body;
}

-- the executor with other queues
abbrev pub with_queues : Queues → Model → Model
with_queues x m = record {
  clock = m.clock;
  queues = x;
  registry = m.registry;
  tree = m.tree;
  alarms = m.alarms;
  stop = m.stop;
  faults = m.faults;
  counts = m.counts;
  digest = m.digest;
  ledger = m.ledger;
  body = m.body;
}

-- the executor with another registry
abbrev pub with_registry : Registry → Model → Model
with_registry x m = record {
  clock = m.clock;
  queues = m.queues;
  registry = x;
  tree = m.tree;
  alarms = m.alarms;
  stop = m.stop;
  faults = m.faults;
  counts = m.counts;
  digest = m.digest;
  ledger = m.ledger;
  body = m.body;
}

-- the executor with another tree
abbrev pub with_tree : Family → Model → Model
with_tree x m = record {
  clock = m.clock;
  queues = m.queues;
  registry = m.registry;
  tree = x;
  alarms = m.alarms;
  stop = m.stop;
  faults = m.faults;
  counts = m.counts;
  digest = m.digest;
  ledger = m.ledger;
  body = m.body;
}

-- the executor with other alarms
abbrev pub with_alarms : Bells → Model → Model
with_alarms x m = record {
  clock = m.clock;
  queues = m.queues;
  registry = m.registry;
  tree = m.tree;
  alarms = x;
  stop = m.stop;
  faults = m.faults;
  counts = m.counts;
  digest = m.digest;
  ledger = m.ledger;
  body = m.body;
}

-- the executor with another stop signal
abbrev pub with_stop : Stops → Model → Model
with_stop x m = record {
  clock = m.clock;
  queues = m.queues;
  registry = m.registry;
  tree = m.tree;
  alarms = m.alarms;
  stop = x;
  faults = m.faults;
  counts = m.counts;
  digest = m.digest;
  ledger = m.ledger;
  body = m.body;
}

-- the executor with other faults
abbrev pub with_faults : Faults → Model → Model
with_faults x m = record {
  clock = m.clock;
  queues = m.queues;
  registry = m.registry;
  tree = m.tree;
  alarms = m.alarms;
  stop = m.stop;
  faults = x;
  counts = m.counts;
  digest = m.digest;
  ledger = m.ledger;
  body = m.body;
}

-- the executor with other counts
abbrev pub with_counts : Counts → Model → Model
with_counts x m = record {
  clock = m.clock;
  queues = m.queues;
  registry = m.registry;
  tree = m.tree;
  alarms = m.alarms;
  stop = m.stop;
  faults = m.faults;
  counts = x;
  digest = m.digest;
  ledger = m.ledger;
  body = m.body;
}

-- the executor with another digest
abbrev pub with_digest : List ℕ → Model → Model
with_digest x m = record {
  clock = m.clock;
  queues = m.queues;
  registry = m.registry;
  tree = m.tree;
  alarms = m.alarms;
  stop = m.stop;
  faults = m.faults;
  counts = m.counts;
  digest = x;
  ledger = m.ledger;
  body = m.body;
}

-- the executor with another ledger
abbrev pub with_ledger : Book → Model → Model
with_ledger x m = record {
  clock = m.clock;
  queues = m.queues;
  registry = m.registry;
  tree = m.tree;
  alarms = m.alarms;
  stop = m.stop;
  faults = m.faults;
  counts = m.counts;
  digest = m.digest;
  ledger = x;
  body = m.body;
}

-- the executor with another body
abbrev pub with_body : Body → Model → Model
with_body x m = record {
  clock = m.clock;
  queues = m.queues;
  registry = m.registry;
  tree = m.tree;
  alarms = m.alarms;
  stop = m.stop;
  faults = m.faults;
  counts = m.counts;
  digest = m.digest;
  ledger = m.ledger;
  body = x;
}

-- how many entries of the ledger are free
abbrev pub free : Model → ℕ
free m = book.free m.ledger

-- an entry is written
abbrev pub noted : Entry → Model → Model
noted e m = with_ledger (written e m.ledger) m

-- an event is audited
abbrev pub audited : Event → Model → Model
audited e m = with_digest (digest_after m.digest e) m

-- an id waits
abbrev pub also_waiting : ℕ → Queues → Queues
also_waiting i q = record { waiting = q.waiting ++ i ∷ []; drained = q.drained }

-- an id is queued, and the entry says why
abbrev pub queued : ℕ → Entry → Model → Model
queued i e m = noted e (with_queues (also_waiting i m.queues) m)

-- the clock at another time
abbrev pub at_time : ℕ → Clock → Clock
at_time t c = record { time = t; cycle = c.cycle; deadline = c.deadline }

-- tasks are told apart by their ids
abbrev pub id_of : Task → ℕ
id_of t = t.id

-- the registered task of an id, if there is one
abbrev pub task_at : ℕ → Model → Option Task
task_at i m = find id_of i m.registry.tasks

-- a task that is registered under a label at a node
abbrev pub new_task : ℕ → List ℕ → Option ℕ → Task
new_task i label node = record { id = i; label = label; node = node; marked = false; pended = false }

-- one task more is registered, and its id is given out
abbrev pub with_task : ℕ → List ℕ → Option ℕ → Registry → Registry
with_task i label node r = record { tasks = r.tasks ++ new_task i label node ∷ []; next = i + 1 }

-- the task is marked aborted
abbrev pub marked : Task → Task
marked t = record { id = t.id; label = t.label; node = t.node; marked = true; pended = t.pended }

-- the task's body has come to pending
abbrev pub pended : Task → Task
pended t = record { id = t.id; label = t.label; node = t.node; marked = t.marked; pended = true }

-- the task of an id is changed, if it is registered
abbrev pub with_changed : (Task → Task) → ℕ → Registry → Registry
with_changed f i r = record { tasks = change id_of f i r.tasks; next = r.next }

-- the task of an id is not registered any more
abbrev pub without_task : ℕ → Registry → Registry
without_task i r = record { tasks = without id_of i r.tasks; next = r.next }

-- one round more was completed
abbrev pub one_iteration : Counts → Counts
one_iteration c = record { iterations = c.iterations + 1; spawned = c.spawned; running = c.running; polls = c.polls }

-- one task more was asked for
abbrev pub one_spawned : Counts → Counts
one_spawned c = record { iterations = c.iterations; spawned = c.spawned + 1; running = c.running; polls = c.polls }

-- one task more runs
abbrev pub one_running : Counts → Counts
one_running c = record { iterations = c.iterations; spawned = c.spawned; running = c.running + 1; polls = c.polls }

-- one task fewer runs
abbrev pub one_not_running : Counts → Counts
one_not_running c = record { iterations = c.iterations; spawned = c.spawned; running = c.running - 1; polls = c.polls }

-- one task more was polled
abbrev pub one_poll : Counts → Counts
one_poll c = record { iterations = c.iterations; spawned = c.spawned; running = c.running; polls = c.polls + 1 }
