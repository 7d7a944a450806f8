-- A new state is the executor at the start: each of its parts is, and then the root is queued.
use Rattle.std.proofs.Common.{◌≡◌, ap, ◌∙◌}
use Rattle.entry.specs.declared.Entry.TheVariants.{Reg}
use Rattle.ledger.specs.Book.{view}
use Rattle.supervision.specs.Calls as supervision
use Rattle.alarms.specs.Model as alarms
use Rattle.signal.specs.Model as signal
use Rattle.deterministic.specs.Model.{Model, queued}
use Rattle.deterministic.specs.Start.{idle_at, no_counts}
use Rattle.state.specs.Faults as faults
use Rattle.state.proofs.State.new.Goals as goal

pub returns-clause-state : goal.returns-clause-state
returns-clause-state c =
    let made = c.in-Ok.ensures in
    let clock = c.args.clock in
    let caught = c.args.caught in
    let book = view c.args.ledger in
    let start : Model = idle_at clock caught book in
    let parts : _ ≡ start =
    λ i. record {
      clock = clock;
      queues = made.queues i;
      registry = made.tasks i;
      tree = made.tree i;
      alarms = made.alarms i;
      stop = made.stop i;
      faults = c.new-2.ensures i;
      counts = no_counts;
      digest = c.new-3.ensures.told i;
      ledger = book;
      body = record { task = 0; granted = 0 };
    }
    in
    let unqueued : Model =
    record {
      clock = clock;
      queues = start.queues;
      registry = start.registry;
      tree = supervision.view c.in-Ok.parts.tree;
      alarms = alarms.view c.in-Ok.parts.alarms;
      stop = signal.view c.in-Ok.parts.stop;
      faults = faults.view c.new-2.result;
      counts = no_counts;
      digest = c.new-3.result.digest;
      ledger = book;
      body = record { task = 0; granted = 0 };
    }
    in
    c.queue.ensures.state no_counts unqueued ∙ ap (queued 0 (Reg 0)) parts
