-- An executor of which a dispatcher holds the queues, the registry and the ledger.
--
-- seen    the executor with these parts, and with these counts
-- leads   what is done to the dispatcher is what a function does to the executor, whatever its other parts are
-- room    what may be written and queued, and what is spent of it
use Rattle.std.specs.Prelude.{◌≡◌, ℕ, ◌+◌, ◌*◌, ◌≤◌, length}
use Rattle.ledger.specs.Book as book
use Rattle.ledger.specs.Book.{Book}
use Rattle.queues.specs.Limits.{most_waiting}
use Rattle.queues.specs.View as queues
use Rattle.tasks.specs.Model as tasks
use Rattle.deterministic.specs.declared.counts.Counts.{Counts}
use Rattle.deterministic.specs.Model.{Queues, Registry, Model}
use Rattle.deterministic.specs.Bounds.{unmarked}
use Rattle.dispatch.specs.declared.Dispatcher.{Dispatcher}

-- the executor with other queues, registry, counts and ledger
abbrev pub with_parts : Queues → Registry → Counts → Book → Model → Model
with_parts q r c b m = record {
  clock = m.clock;
  queues = q;
  registry = r;
  tree = m.tree;
  alarms = m.alarms;
  stop = m.stop;
  faults = m.faults;
  counts = c;
  digest = m.digest;
  ledger = b;
  body = m.body;
}

-- the executor with what the dispatcher holds, and with these counts
abbrev pub seen : Dispatcher → Counts → Model → Model
seen d c m = with_parts (queues.view d.queues) (tasks.view d.tasks) c (book.view d.ledger) m

-- from one dispatcher and its counts to another: where the function leads
abbrev pub LeadsCounted : Dispatcher → Counts → Dispatcher → Counts → (Model → Model) → Type 0
LeadsCounted d c e k F = (m : Model) → seen e k m ≡ F (seen d c m)

-- the same, where the counts are not touched
abbrev pub Leads : Dispatcher → Dispatcher → (Model → Model) → Type 0
Leads d e F = (c : Counts) → LeadsCounted d c e c F

-- how many entries are free
abbrev pub free_entries : Dispatcher → ℕ
free_entries d = book.free (book.view d.ledger)

-- how many ids wait
abbrev pub waiting_ids : Dispatcher → ℕ
waiting_ids d = length (queues.view d.queues).waiting

-- how many registered tasks are not marked
abbrev pub unmarked_tasks : Dispatcher → ℕ
unmarked_tasks d = unmarked (tasks.view d.tasks).tasks

-- so many entries can be written, and so many ids queued
pub record HasRoom (d : Dispatcher) (entries ids : ℕ) : Type 0 where
  pub entries_left : entries ≤ free_entries d
  pub places_left : waiting_ids d + ids ≤ most_waiting

-- from one dispatcher to another so many entries are written and so many ids queued, and the registry stays
pub record Spends (d e : Dispatcher) (entries ids : ℕ) : Type 0 where
  pub left : free_entries e + entries ≡ free_entries d
  pub waiting : waiting_ids e ≡ waiting_ids d + ids
  pub registry : tasks.view e.tasks ≡ tasks.view d.tasks

-- a mark may take two entries and a place: there are as many for each task that is not marked yet
pub record MarksFit (d : Dispatcher) : Type 0 where
  pub entries_left : 2 * unmarked_tasks d ≤ free_entries d
  pub places_left : waiting_ids d + unmarked_tasks d ≤ most_waiting

-- from one dispatcher to another no more than that is spent for each task that is marked
pub record SpendsByMarks (d e : Dispatcher) : Type 0 where
  pub left : free_entries d + 2 * unmarked_tasks e ≤ free_entries e + 2 * unmarked_tasks d
  pub waiting : waiting_ids e + unmarked_tasks e ≤ waiting_ids d + unmarked_tasks d
