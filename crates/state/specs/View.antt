-- What the state of an executor stands for.
use Rattle.queues.specs.View as queues
use Rattle.tasks.specs.Model as tasks
use Rattle.ledger.specs.Book as ledger
use Rattle.supervision.specs.Calls as supervision
use Rattle.alarms.specs.Model as alarms
use Rattle.signal.specs.Model as signal
use Rattle.deterministic.specs.Model.{Model}
use Rattle.state.specs.declared.State.{State}
use Rattle.state.specs.Faults as faults

-- each part as its own crate sees it
abbrev pub view : State → Model
view s = record {
  clock = s.clock;
  queues = queues.view s.dispatcher.queues;
  registry = tasks.view s.dispatcher.tasks;
  tree = supervision.view s.tree;
  alarms = alarms.view s.alarms;
  stop = signal.view s.stop;
  faults = faults.view s.faults;
  counts = s.counts;
  digest = s.auditor.digest;
  ledger = ledger.view s.dispatcher.ledger;
  body = s.body;
}
