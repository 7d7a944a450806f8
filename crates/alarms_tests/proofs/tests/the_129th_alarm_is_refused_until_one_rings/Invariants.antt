-- Each turn takes at most one serial.
use Rattle.std.proofs.Common.{◌≤◌}
use Rattle.alarms.specs.Model.{view}
use Rattle.alarms_tests.proofs.tests.the_129th_alarm_is_refused_until_one_rings.Given as goal

abbrev pub invariant-loop-task : goal.invariant-loop-task
invariant-loop-task g l = (view l.alarms).next ≤ l.task
