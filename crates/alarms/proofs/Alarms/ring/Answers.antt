-- The first of a list in ringing order is the one to ring.
use Rattle.std.proofs.Common.{Some, None, rules}
use Rattle.reserved.specs.Held.{held}
use Rattle.alarms.proofs.Ringing.{rings_so, whole_ringing}
use Rattle.alarms.proofs.Alarms.ring.Goals as goal

pub returns-in-Some-clause-first : goal.returns-in-Some-clause-first
returns-in-Some-clause-first c = rings_so c.args.clock _ (held c.args.self.now.standing) (held c.remove.new.self) (Some c.remove.result) c.args.self.now.order (search rules) (search rules)

pub returns-in-Some-clause-whole : goal.returns-in-Some-clause-whole
returns-in-Some-clause-whole c = whole_ringing _ _ _ c.args.self.now.order

pub returns-in_default-clause-first : goal.returns-in_default-clause-first
returns-in_default-clause-first c = rings_so c.args.clock _ (held c.args.self.now.standing) (held c.args.self.now.standing) None c.args.self.now.order (search rules) (search rules)

pub returns-in_default-clause-whole : goal.returns-in_default-clause-whole
returns-in_default-clause-whole c = whole_ringing _ _ _ c.args.self.now.order

pub returns-in_default-2-clause-whole : goal.returns-in_default-2-clause-whole
returns-in_default-2-clause-whole c = whole_ringing _ _ _ c.args.self.now.order
