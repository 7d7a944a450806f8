-- More worked rehearsals, computed.
use Rattle.std.proofs.Common.{refl}
use Rattle.auditor.specs.Events.{digest_after}
use Rattle.crc32c.specs.Crc.{after_bit, after_eight}
use Rattle.deterministic.specs.Ending.{markings}
use Rattle.deterministic.specs.Run.{ringing, deals, rounds}
use Rattle.crews.specs.Script.{steps}
use Rattle.crews.specs.Rehearsals.{blanks}
use Rattle.crews.specs.Behaviours.{Behaviours}

pub behaviours_come_out : Behaviours
unfolding digest_after after_bit after_eight markings ringing deals rounds steps blanks
behaviours_come_out = record {
  aborted_while_it_waits_is_so = refl;
  cascade_last_child_first_is_so = refl;
  first_fault_ends_the_run_is_so = refl;
  caught_faults_is_so = refl;
  stop_and_completion_is_so = refl;
  woken_after_its_end_is_so = refl;
  clock_at_its_limit_is_so = refl;
  sleep_past_the_limit_is_so = refl;
}
