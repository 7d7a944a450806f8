-- What every run keeps of its alarms and its clock.
use Rattle.std.specs.Prelude.{◌≡◌, ℕ, ◌+◌, List}
use Rattle.entry.specs.declared.Entry.{Entry}
use Rattle.alarms.specs.declared.Alarm.{Alarm}
use Rattle.deterministic.specs.Model.{Model}
use Rattle.deterministic.specs.Run.{Finish}
use Rattle.deterministic.specs.Start.{Settings, started}
use Rattle.deterministic.specs.Acts.{Act}
use Rattle.deterministic.specs.History.{Round, over, armed, rung, count, Each, EveryAlarmRings, RingsByTime, OnlyArmedRing, RingsInOrder, ClockMoves, ClockJumps, clock_after}
use Rattle.laws.specs.Story.{Path, Story}

-- rounds from a start by a cycle to an executor keep this
pub record RingsRight (start cycle : ℕ) (rounds : List Round) (n : Model) : Type 0 where
  -- an alarm that is armed rings once, at the close of the first round from its arming on whose clock has reached it, and at no other
  pub alarms_ring : Each EveryAlarmRings rounds
  -- the same by task and time, as the ledger shows it
  pub by_time : (task time : ℕ) → RingsByTime task time 0 rounds
  -- nothing rings that was not armed
  pub only_armed_ring : Each OnlyArmedRing rounds
  -- earliest first, equal times in arming order
  pub in_order : Each RingsInOrder rounds
  -- what was armed has rung, or stands at the end
  pub accounted : (a : Alarm) → count a (over armed rounds) ≡ count a (over rung rounds) + count a n.alarms.alarms
  -- each close moves the clock by one cycle, unless the run ends first
  pub clock_moves : Each (ClockMoves start cycle) rounds
  -- the clock jumps only while nothing waits, and to the earliest alarm that has not rung
  pub clock_jumps : Each ClockJumps rounds
  -- nothing else has moved it
  pub clock_is : n.clock.time ≡ clock_after start rounds

-- whatever the settings and the memory
abbrev pub EveryStoryRingsRight : Type 0
EveryStoryRingsRight =
    (s : Settings) (memory : List Entry) (rounds : List Round) (n : Model) (f : Finish) → Story (started s memory) rounds n f → RingsRight s.start s.cycle rounds n

-- what a body's calls and a task's end do moves no clock
abbrev pub ActsLeaveTheClock : Type 0
ActsLeaveTheClock = (m n : Model) (acts : List Act) → Path m acts n → n.clock ≡ m.clock
