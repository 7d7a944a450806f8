-- The worked rehearsals, computed.
use Rattle.std.proofs.Common.{refl}
use Rattle.auditor.specs.Events.{digest_after}
use Rattle.crc32c.specs.Crc.{after_bit, after_eight}
use Rattle.deterministic.specs.Ending.{markings}
use Rattle.deterministic.specs.Run.{ringing, deals, rounds}
use Rattle.crews.specs.Script.{steps}
use Rattle.crews.specs.Rehearsals.{blanks, bereaved, Rehearsals}

pub rehearsals_come_out : Rehearsals
unfolding digest_after after_bit after_eight markings ringing deals rounds steps blanks bereaved
rehearsals_come_out = record {
  heat_is_done = refl;
  timeout_at_the_jump = refl;
  timeout_after_the_ring = refl;
  timeout_before_the_first_round = refl;
  root_that_awaits_stalls = refl;
  woken_twice_is_dealt_three_times = refl;
  thirty_one_dead_links_stay = refl;
  thirty_two_dead_links_go = refl;
}
