-- What keeps an executor's tables, queues, numbers and ledger within their limits. No limit is tested for beyond those by which
-- calls are refused and runs end: these bounds follow.
--
-- sound   who is registered, listed and seated agrees, and every number is far below 2^64
-- calm    how many ids can wait while bodies are called
-- spare   the entries that stay free while a body is called
use Rattle.std.specs.Prelude.{◌≡◌, ℕ, ◌+◌, ◌*◌, ◌≤◌, cond, List, [], ◌∷◌, map, length, is_some}
use Rattle.nodes.specs.declared.Node.{Node}
use Rattle.roster.specs.Row.{task_of}
use Rattle.supervision.specs.Sound.{seats_with}
use Rattle.signal.specs.Model.{Stops, has_stopped, complete}
use Rattle.deterministic.specs.Model.{Task, Faults, Model, id_of, free}

-- how many of these tasks are not marked
unfoldable pub unmarked : List Task → ℕ
unmarked [] = 0
unmarked (t ∷ ts) = cond t.marked 0 1 + unmarked ts

-- how many of these nodes have an open context
unfoldable pub open_contexts : List Node → ℕ
open_contexts [] = 0
open_contexts (n ∷ ns) = cond (is_some n.owner) 1 0 + open_contexts ns

-- ids, serials and counts are bounded by the entries written, and contexts by the calls granted
pub record Numbered (m : Model) : Type 0 where
  -- the ledger has at most 65,536 entries
  pub entries : length m.ledger.log + free m ≤ 65536
  -- each id, arming, poll and completed round has an entry of its own
  pub ids : m.registry.next ≤ length m.ledger.log
  pub armings : m.alarms.next ≤ length m.ledger.log
  pub polls : m.counts.polls ≤ length m.ledger.log
  pub rounds : m.counts.iterations ≤ length m.ledger.log
  -- in a poll at most 4,096 calls are granted
  pub granted : m.body.granted ≤ 4096
  -- a call makes at most one context
  pub contexts : m.tree.next ≤ 1 + m.counts.polls * 4096 + m.body.granted
  -- each spawn spends a context
  pub spawned : m.counts.spawned + open_contexts m.tree.nodes ≤ m.tree.next
  pub running : m.counts.running ≤ m.counts.spawned

-- what holds of an executor whenever no call and no step of a run is under way
pub record Sound (m : Model) : Type 0 where
  -- the stop signal lists exactly the registered tasks, in the same order
  pub listed : map task_of m.stop.roll.rows ≡ map id_of m.registry.tasks
  pub list_next : m.stop.roll.next ≡ m.registry.next
  -- at most 64 tasks are registered
  pub few : length m.registry.tasks ≤ 64
  -- no id that was not given out is seated in the tree
  pub seated : (task : ℕ) → m.registry.next ≤ task → seats_with task m.tree.nodes ≡ 0
  pub numbered : Numbered m

-- 64 ids more may wait once there was a stop
abbrev pub by_stop : Stops → ℕ
by_stop S = cond (has_stopped S) 64 0

-- and again 64 once the stop is complete
abbrev pub by_completion : Stops → ℕ
by_completion S = cond (complete S) 64 0

-- and one more for a kept fault
abbrev pub by_fault : Faults → ℕ
by_fault f = cond (is_some f.kept) 1 0

-- the ids that wait, and the tasks whose mark could still wake them: a spawn or a wake is granted below 256 waiting ids, and a
-- mark spends its task; stop, completion and kept fault come once. So at most 449 wait while bodies are called, and with the rings
-- of a close, of at most 128 alarms, at most 577
abbrev pub Calm : Model → Type 0
Calm m = length m.queues.waiting + unmarked m.registry.tasks ≤ 320 + (by_stop m.stop + (by_completion m.stop + by_fault m.faults))

-- a body is called while 511 entries are free after its poll was written, and a call writes at most 64, and only where 512 are free
abbrev pub Spare : Model → Type 0
Spare m = 447 ≤ free m
