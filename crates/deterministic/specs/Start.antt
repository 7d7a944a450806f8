-- Settings, the executor at the start of a run, and the finished run.
use Rattle.std.specs.Prelude.{ℕ, suc, ◌+◌, ◌^◌, Bool, true, cond, List, [], ◌∷◌, length, ℤ, is_some, Some, None, codes, Option, ◌==◌, nat_lt}
use Rattle.std.specs.Option.{option_map}
use Rattle.keyed.specs.Choices.{given}
use Rattle.entry.specs.declared.Entry.{Entry}
use Rattle.entry.specs.declared.Entry.TheVariants as entry
use Rattle.entry.specs.declared.report.Report.{Report}
use Rattle.ledger.specs.Book.{Book, empty, right_size, wrong_size_number}
use Rattle.ledger.specs.Totals.{totals_of}
use Rattle.reasons.specs.declared.end.End.{End}
use Rattle.supervision.specs.Calls.{founded}
use Rattle.alarms.specs.Model.{silent}
use Rattle.signal.specs.Model.{unstopped, entered}
use Rattle.auditor.specs.Events.{no_digest}
use Rattle.arrange.specs.Order.{Order}
use Rattle.deterministic.specs.declared.clock.Clock.{Clock}
use Rattle.deterministic.specs.declared.counts.Counts.{Counts}
use Rattle.deterministic.specs.Model.{Registry, Model, new_task, queued}
use Rattle.deterministic.specs.Rules.{Turn}
use Rattle.deterministic.specs.Run.{Final, Finish, root_done, faulted, timed_out, stalled, clock_spent, ledger_spent, end_of, rounds}

-- cycle and start in nanoseconds, a timeout from the start on or none, and whether faults are caught
pub record Settings : Type 0 where
  pub cycle : ℕ
  pub start : ℕ
  pub timeout : Option ℕ
  pub catch : Bool

-- the deadline is start plus timeout
abbrev pub deadline_of : Settings → Option ℕ
deadline_of s = option_map (λ timeout. s.start + timeout) s.timeout

-- a deadline fits 64 bits, if there is one
abbrev pub deadline_fits : Settings → Bool
deadline_fits s = given (deadline_of s) true (λ d. nat_lt d (2 ^ 64))

-- settings are refused by number 1 for a cycle of 0 with a timeout, 2 for one without, 3 for a deadline past the greatest time
abbrev pub settings_refusal : Settings → Option ℕ
settings_refusal s =
    cond (s.cycle == 0) (Some (cond (is_some s.timeout) 1 2))
    (cond (deadline_fits s) None (Some 3))

-- memory that makes no ledger is refused by its number
abbrev pub memory_refusal : List Entry → Option ℕ
memory_refusal memory = cond (right_size memory) None (Some wrong_size_number)

-- no count has risen
abbrev pub no_counts : Counts
no_counts = record { iterations = 0; spawned = 0; running = 0; polls = 0 }

-- the clock of a run with these settings, at its start
abbrev pub clock_of : Settings → Clock
clock_of s = record { time = s.start; cycle = s.cycle; deadline = deadline_of s }

-- the root is registered, and no other task
abbrev pub root_alone : Registry
root_alone = record { tasks = new_task 0 (codes "root") None ∷ []; next = 1 }

-- an executor with the root alone, not queued yet, at this clock, with faults caught or not, over this ledger
abbrev pub idle_at : Clock → Bool → Book → Model
idle_at clock caught book = record {
  clock = clock;
  queues = record { waiting = []; drained = [] };
  registry = root_alone;
  tree = founded;
  alarms = silent;
  stop = entered 0 unstopped;
  faults = record { caught = caught; kept = None };
  counts = no_counts;
  digest = no_digest;
  ledger = book;
  body = record { task = 0; granted = 0 };
}

-- that executor over an empty ledger, as the settings have it
abbrev pub idle : Settings → List Entry → Model
idle s memory = idle_at (clock_of s) s.catch (empty memory)

-- at the start the root is registered, with the context at the tree's top, and queued
abbrev pub started : Settings → List Entry → Model
started s memory = queued 0 (entry.Reg 0) (idle s memory)

-- a run with these settings over this memory
abbrev pub run : {V W : Type 0} → (V → ℕ → Model → Turn V) → (W → (ids : List ℕ) → Order W ℕ ids) → Settings → List Entry → V → W → Final V W
run rule arrange s memory v w = rounds rule arrange (suc (length memory)) v w (started s memory)

-- the totals: completed closes; what the ledger tells; what stays in the queues, drained and waiting
abbrev pub report_of : Model → Report
report_of m =
    let t = totals_of m.ledger.log in
    record {
      rounds = m.counts.iterations;
      dealt = t.dealt;
      undealt = length m.queues.drained + length m.queues.waiting;
      registered = t.registered;
      woken = t.woken;
    }

-- the value of a root that was done
abbrev pub value_of : Finish → Option ℤ
value_of (root_done value) = Some value
value_of (faulted code) = None
value_of timed_out = None
value_of stalled = None
value_of clock_spent = None
value_of ledger_spent = None

-- the code of the fault that ended a run
abbrev pub code_of : Finish → Option ℕ
code_of (root_done value) = None
code_of (faulted code) = Some code
code_of timed_out = None
code_of stalled = None
code_of clock_spent = None
code_of ledger_spent = None

-- a finished run: the ledger, whose entries after the last one written are as they were; how it ended, with the root's value or
-- the fault's code; the clock, the digest, the totals and the counts as they are at the end; and the crew and the arranger
pub record Finished (V W : Type 0) : Type 0 where
  pub ledger : Book
  pub end : End
  pub value : Option ℤ
  pub code : Option ℕ
  pub time : ℕ
  pub digest : List ℕ
  pub report : Report
  pub counts : Counts
  pub crew : V
  pub arranger : W

-- what a run has come to
abbrev pub finished : {V W : Type 0} → Final V W → Finished V W
finished f = record {
  ledger = f.model.ledger;
  end = end_of f.finish;
  value = value_of f.finish;
  code = code_of f.finish;
  time = f.model.clock.time;
  digest = f.model.digest;
  report = report_of f.model;
  counts = f.model.counts;
  crew = f.crew;
  arranger = f.arranger;
}
