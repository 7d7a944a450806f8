-- What the events of the code mean.
use Rattle.std.specs.Prelude.{Ok, Err, Result}
use Rattle.auditor.specs.Events as events
use Rattle.event_lines.specs.declared.event.Event.{Event}
use Rattle.event_lines.specs.declared.event.Event.TheVariants.{ProcessTask, Stop, Stopped}
use Rattle.event_lines.specs.declared.event.Trouble.{Trouble}

-- the event that a value of the code stands for
abbrev pub meant : Event → events.Event
meant (ProcessTask id label) = events.process_task id label.now
meant (Stop value) = events.stop value
meant Stopped = events.stopped

-- the answer of a reader, as an event or what is wrong
abbrev pub answered : Result Event Trouble → Result events.Event Trouble
answered (Ok e) = Ok (meant e)
answered (Err t) = Err t
