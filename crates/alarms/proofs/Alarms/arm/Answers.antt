-- The list stays in ringing order with the new alarm in its place, and the alarm's serial is new.
use Rattle.std.proofs.Common.{◌∙◌, refl, rules}
use Rattle.reserved.specs.Held.{held}
use Rattle.alarms.specs.Model.{view, alarm_of}
use Rattle.alarms.proofs.Orders.{ordered_placed, rises_added}
use Rattle.alarms.proofs.Alarms.arm.Goals as goal

pub invariant_of-self : goal.invariant_of-self
invariant_of-self c = record { order = rw (c.insert.ensures ∙ c.place-at.ensures.value) (ordered_placed (alarm_of (view c.args.self.now) c.args.task c.args.time) (held c.args.self.now.standing) c.args.self.now.order) }

pub returns-clause-serials : goal.returns-clause-serials
returns-clause-serials c = rises_added c.args.task c.args.time _ (view c.args.self.now) _ c.args.self.now.order refl (search rules)
