-- The first of a list in ringing order is the earliest.
use Rattle.std.proofs.Common.{rules}
use Rattle.alarms.proofs.Ringing.{earliest_so}
use Rattle.alarms.proofs.Alarms.earliest.Goals as goal

pub returns-clause-least : goal.returns-clause-least
returns-clause-least c = earliest_so _ _ _ c.args.self.now.order (search rules)
