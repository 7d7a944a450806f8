-- Every story rings right, and moves its clock right.
use Rattle.std.proofs.Common.{List, [], refl, arith}
use Rattle.entry.specs.declared.Entry.{Entry}
use Rattle.deterministic.specs.Model.{Model}
use Rattle.deterministic.specs.Run.{Finish}
use Rattle.deterministic.specs.Start.{Settings, started}
use Rattle.deterministic.specs.History.{Round, over, armed, rung, same, clock_after}
use Rattle.laws.specs.Story.{Story}
use Rattle.laws.specs.Ringing.{RingsRight}
use Rattle.laws.proofs.Each.{each}
use Rattle.laws.proofs.AlarmsCounts.{count_number}
use Rattle.laws.proofs.AlarmsPast.{Past, Placed, story_told}
use Rattle.laws.proofs.AlarmsLaws.{alarms_ring, by_time, only_armed_ring, in_order}
use Rattle.laws.proofs.ClockLaws.{clock_moves, clock_jumps}

-- at the start nothing was armed
past_start : (s : Settings) (memory : List Entry) → Past s.start s.cycle [] (started s memory)
unfolding over clock_after
past_start s memory = record { accounted = λ test. refl; unused = λ a h. refl; once = λ a. omega arith; orders = refl; time = refl; steady = refl }

pub story_rings_right : (s : Settings) (memory : List Entry) (rounds : List Round) (n : Model) (f : Finish) → Story (started s memory) rounds n f → RingsRight s.start s.cycle rounds n
story_rings_right s memory rounds n f story =
    let told = story_told s.start s.cycle story [] (past_start s memory) in
    let placed = each (Placed s.start s.cycle) rounds told.0 in
    let past = told.1 in
    record {
      alarms_ring = alarms_ring story refl past.once;
      by_time = by_time story refl;
      only_armed_ring = λ before r after is. only_armed_ring s.start s.cycle before r after (placed before r after is);
      in_order = λ before r after is. in_order s.start s.cycle before r after (placed before r after is);
      accounted = λ a. omega (arith, count_number a (over armed rounds), count_number a (over rung rounds), count_number a n.alarms.alarms, past.accounted (same a));
      clock_moves = λ before r after is. clock_moves s.start s.cycle before r after (placed before r after is);
      clock_jumps = λ before r after is. clock_jumps s.start s.cycle before r after (placed before r after is);
      clock_is = past.time;
    }
