use Rattle.event_lines.proofs.Reading.{event_exact}
use Rattle.event_lines.proofs.reader.read_event.Goals as goal

pub returns-clause-exact : goal.returns-clause-exact
returns-clause-exact c = event_exact c.args.line.now
