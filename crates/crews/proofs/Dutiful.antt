-- What is the crew's own to do, computed.
use Rattle.std.proofs.Common.{refl}
use Rattle.auditor.specs.Events.{digest_after}
use Rattle.crc32c.specs.Crc.{after_bit, after_eight}
use Rattle.deterministic.specs.Ending.{markings}
use Rattle.deterministic.specs.Run.{ringing, deals, rounds}
use Rattle.crews.specs.Script.{steps}
use Rattle.crews.specs.Rehearsals.{blanks}
use Rattle.crews.specs.Duties.{Duties}

pub duties_are_done : Duties
unfolding digest_after after_bit after_eight markings ringing deals rounds steps blanks
duties_are_done = record {
  a_name_means_its_latest_task = refl;
  a_signal_is_let_go_once_it_answers = refl;
  the_first_refusal_stays = refl;
  each_goes_on_where_it_waited = refl;
  a_name_without_a_task_means_no_id = λ name. refl;
  a_refused_spawn_names_no_task = refl;
  each_step_makes_its_calls = refl;
  a_sleeper_asks_by_its_serial = refl;
  a_waiting_task_asks_its_signal = refl;
  a_refused_call_is_made = refl;
  a_fault_has_its_code = refl;
  a_fault_of_the_root_has_its_code = refl;
  a_refusal_is_a_fault_with_its_number = refl;
  another_refusal_has_another_number = refl;
  caught_faults_leave_no_code = refl;
}
