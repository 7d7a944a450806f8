-- More rehearsals worked out, each by what happens in it.
use Rattle.std.specs.Prelude.{true, false, [], ◌∷◌, pos, Some, None, codes}
use Rattle.entry.specs.declared.Entry.TheVariants as entry
use Rattle.reasons.specs.declared.cause.Cause.TheVariants as cause
use Rattle.reasons.specs.declared.ending.Ending.TheVariants as ending
use Rattle.reasons.specs.declared.end.End.TheVariants as end
use Rattle.forms.specs.Meaning.{sleep, spawn, wake, abort, stop, await, done, fault, Plan}
use Rattle.crews.specs.Rehearsals.{Told, Tells}

-- a task that has pended is aborted: it is marked and woken, and ends at its next deal without its body being called
abbrev pub aborted_while_it_waits : Plan
aborted_while_it_waits = record {
  cycle = 10;
  start = 0;
  timeout = None;
  catch = false;
  tasks =
      record { name = codes "root"; acts = spawn (codes "a") ∷ sleep 15 ∷ abort (codes "a") ∷ sleep 30 ∷ []; line = 2 }
      ∷ record { name = codes "a"; acts = await ∷ []; line = 3 } ∷ [];
}

-- what it tells
abbrev pub aborted_while_it_waits_told : Told
aborted_while_it_waits_told = record {
  log =
      entry.Reg 0
      ∷ entry.Round 1 ∷ entry.Poll 0 true ∷ entry.Reg 1 ∷ entry.Arm 0 15 ∷ entry.Tick 10
      ∷ entry.Round 1 ∷ entry.Poll 1 true ∷ entry.Tick 20 ∷ entry.Ring 0 15
      ∷ entry.Round 1 ∷ entry.Poll 0 true ∷ entry.Mark 1 ∷ entry.Wake 1 cause.Abort ∷ entry.Arm 0 50 ∷ entry.Tick 30
      ∷ entry.Round 1 ∷ entry.Poll 1 false ∷ entry.Done 1 ending.Aborted ∷ entry.Tick 40 ∷ entry.Jump 50 ∷ entry.Ring 0 50
      ∷ entry.Round 1 ∷ entry.Poll 0 true ∷ entry.End end.RootDone ∷ [];
  report = record { rounds = 4; dealt = 5; undealt = 0; registered = 2; woken = 3 };
  time = 50;
  digest = 0x9d ∷ 0xae ∷ 0xcb ∷ 0x53 ∷ [];
  end = end.RootDone;
  value = Some (pos 0);
  counts = record { iterations = 4; spawned = 1; running = 0; polls = 5 };
  refused = None;
}

-- an aborted task ends, and with it the tasks below it: the last spawned is marked first
abbrev pub cascade_last_child_first : Plan
cascade_last_child_first = record {
  cycle = 10;
  start = 0;
  timeout = None;
  catch = false;
  tasks =
      record { name = codes "root"; acts = spawn (codes "a") ∷ sleep 25 ∷ abort (codes "a") ∷ sleep 90 ∷ []; line = 2 }
      ∷ record { name = codes "a"; acts = spawn (codes "b") ∷ spawn (codes "c") ∷ sleep 500 ∷ []; line = 3 }
      ∷ record { name = codes "b"; acts = await ∷ []; line = 4 }
      ∷ record { name = codes "c"; acts = await ∷ []; line = 5 } ∷ [];
}

-- what it tells
abbrev pub cascade_last_child_first_told : Told
cascade_last_child_first_told = record {
  log =
      entry.Reg 0
      ∷ entry.Round 1 ∷ entry.Poll 0 true ∷ entry.Reg 1 ∷ entry.Arm 0 25 ∷ entry.Tick 10
      ∷ entry.Round 1 ∷ entry.Poll 1 true ∷ entry.Reg 2 ∷ entry.Reg 3 ∷ entry.Arm 1 510 ∷ entry.Tick 20
      ∷ entry.Round 2 ∷ entry.Poll 2 true ∷ entry.Poll 3 true ∷ entry.Tick 30 ∷ entry.Ring 0 25
      ∷ entry.Round 1 ∷ entry.Poll 0 true ∷ entry.Mark 1 ∷ entry.Wake 1 cause.Abort ∷ entry.Arm 0 120 ∷ entry.Tick 40
      ∷ entry.Round 1 ∷ entry.Poll 1 false ∷ entry.Mark 3 ∷ entry.Wake 3 cause.Abort ∷ entry.Mark 2 ∷ entry.Wake 2 cause.Abort ∷ entry.Done 1 ending.Aborted ∷ entry.Tick 50
      ∷ entry.Round 2 ∷ entry.Poll 3 false ∷ entry.Done 3 ending.Aborted ∷ entry.Poll 2 false ∷ entry.Done 2 ending.Aborted ∷ entry.Tick 60 ∷ entry.Jump 120 ∷ entry.Ring 0 120
      ∷ entry.Round 1 ∷ entry.Poll 0 true ∷ entry.End end.RootDone ∷ [];
  report = record { rounds = 6; dealt = 9; undealt = 0; registered = 4; woken = 5 };
  time = 120;
  digest = 0x03 ∷ 0x53 ∷ 0xa5 ∷ 0x3b ∷ [];
  end = end.RootDone;
  value = Some (pos 0);
  counts = record { iterations = 6; spawned = 3; running = 0; polls = 9 };
  refused = None;
}

-- two tasks fault and nothing is caught: the first fault is kept, wakes the root and ends the run
abbrev pub first_fault_ends_the_run : Plan
first_fault_ends_the_run = record {
  cycle = 10;
  start = 0;
  timeout = None;
  catch = false;
  tasks =
      record { name = codes "root"; acts = spawn (codes "a") ∷ spawn (codes "b") ∷ sleep 50 ∷ []; line = 2 }
      ∷ record { name = codes "a"; acts = fault 7 ∷ []; line = 3 }
      ∷ record { name = codes "b"; acts = fault 8 ∷ []; line = 4 } ∷ [];
}

-- what it tells
abbrev pub first_fault_ends_the_run_told : Told
first_fault_ends_the_run_told = record {
  log =
      entry.Reg 0
      ∷ entry.Round 1 ∷ entry.Poll 0 true ∷ entry.Reg 1 ∷ entry.Reg 2 ∷ entry.Arm 0 50 ∷ entry.Tick 10
      ∷ entry.Round 2 ∷ entry.Poll 1 true ∷ entry.Wake 0 cause.Fault ∷ entry.Done 1 ending.Faulted ∷ entry.Poll 2 true ∷ entry.Done 2 ending.Faulted ∷ entry.Tick 20
      ∷ entry.Round 1 ∷ entry.Poll 0 false ∷ entry.End end.Fault ∷ [];
  report = record { rounds = 2; dealt = 4; undealt = 0; registered = 3; woken = 1 };
  time = 20;
  digest = 0x74 ∷ 0xaa ∷ 0x7b ∷ 0x0f ∷ [];
  end = end.Fault;
  value = None;
  counts = record { iterations = 2; spawned = 2; running = 0; polls = 4 };
  refused = None;
}

-- faults are caught: they end their tasks alone
abbrev pub caught_faults : Plan
caught_faults = record {
  cycle = 10;
  start = 0;
  timeout = None;
  catch = true;
  tasks =
      record { name = codes "root"; acts = spawn (codes "a") ∷ spawn (codes "a") ∷ spawn (codes "a") ∷ sleep 50 ∷ []; line = 3 }
      ∷ record { name = codes "a"; acts = fault 9 ∷ []; line = 4 } ∷ [];
}

-- what it tells
abbrev pub caught_faults_told : Told
caught_faults_told = record {
  log =
      entry.Reg 0
      ∷ entry.Round 1 ∷ entry.Poll 0 true ∷ entry.Reg 1 ∷ entry.Reg 2 ∷ entry.Reg 3 ∷ entry.Arm 0 50 ∷ entry.Tick 10
      ∷ entry.Round 3 ∷ entry.Poll 1 true ∷ entry.Done 1 ending.Faulted ∷ entry.Poll 2 true ∷ entry.Done 2 ending.Faulted ∷ entry.Poll 3 true ∷ entry.Done 3 ending.Faulted ∷ entry.Tick 20 ∷ entry.Jump 50 ∷ entry.Ring 0 50
      ∷ entry.Round 1 ∷ entry.Poll 0 true ∷ entry.End end.RootDone ∷ [];
  report = record { rounds = 2; dealt = 5; undealt = 0; registered = 4; woken = 1 };
  time = 50;
  digest = 0x3b ∷ 0x9f ∷ 0xf6 ∷ 0x86 ∷ [];
  end = end.RootDone;
  value = Some (pos 0);
  counts = record { iterations = 2; spawned = 3; running = 0; polls = 5 };
  refused = None;
}

-- a stop wakes those who await it by ascending id, and completion wakes the root when the last of them lets go
abbrev pub stop_and_completion : Plan
stop_and_completion = record {
  cycle = 10;
  start = 0;
  timeout = None;
  catch = false;
  tasks =
      record { name = codes "root"; acts = spawn (codes "a") ∷ spawn (codes "b") ∷ spawn (codes "c") ∷ sleep 50 ∷ stop (pos 1) ∷ done (pos 0) ∷ []; line = 2 }
      ∷ record { name = codes "a"; acts = sleep 20 ∷ await ∷ []; line = 3 }
      ∷ record { name = codes "b"; acts = sleep 5 ∷ await ∷ []; line = 4 }
      ∷ record { name = codes "c"; acts = await ∷ []; line = 5 } ∷ [];
}

-- what it tells
abbrev pub stop_and_completion_told : Told
stop_and_completion_told = record {
  log =
      entry.Reg 0
      ∷ entry.Round 1 ∷ entry.Poll 0 true ∷ entry.Reg 1 ∷ entry.Reg 2 ∷ entry.Reg 3 ∷ entry.Arm 0 50 ∷ entry.Tick 10
      ∷ entry.Round 3 ∷ entry.Poll 1 true ∷ entry.Arm 1 30 ∷ entry.Poll 2 true ∷ entry.Arm 2 15 ∷ entry.Poll 3 true ∷ entry.Tick 20 ∷ entry.Ring 2 15
      ∷ entry.Round 1 ∷ entry.Poll 2 true ∷ entry.Tick 30 ∷ entry.Ring 1 30
      ∷ entry.Round 1 ∷ entry.Poll 1 true ∷ entry.Tick 40 ∷ entry.Jump 50 ∷ entry.Ring 0 50
      ∷ entry.Round 1 ∷ entry.Poll 0 true ∷ entry.Wake 1 cause.Stop ∷ entry.Wake 2 cause.Stop ∷ entry.Wake 3 cause.Stop ∷ entry.Tick 60
      ∷ entry.Round 3 ∷ entry.Poll 1 true ∷ entry.Done 1 ending.Returned ∷ entry.Poll 2 true ∷ entry.Done 2 ending.Returned ∷ entry.Poll 3 true ∷ entry.Wake 0 cause.Stop ∷ entry.Done 3 ending.Returned ∷ entry.Tick 70
      ∷ entry.Round 1 ∷ entry.Poll 0 true ∷ entry.End end.RootDone ∷ [];
  report = record { rounds = 6; dealt = 11; undealt = 0; registered = 4; woken = 7 };
  time = 70;
  digest = 0x76 ∷ 0x35 ∷ 0x29 ∷ 0xf8 ∷ [];
  end = end.RootDone;
  value = Some (pos 0);
  counts = record { iterations = 6; spawned = 3; running = 0; polls = 11 };
  refused = None;
}

-- a task that has ended is woken: it is skipped
abbrev pub woken_after_its_end : Plan
woken_after_its_end = record {
  cycle = 10;
  start = 0;
  timeout = None;
  catch = false;
  tasks =
      record { name = codes "root"; acts = spawn (codes "a") ∷ sleep 15 ∷ wake (codes "a") ∷ sleep 30 ∷ []; line = 2 }
      ∷ record { name = codes "a"; acts = []; line = 3 } ∷ [];
}

-- what it tells
abbrev pub woken_after_its_end_told : Told
woken_after_its_end_told = record {
  log =
      entry.Reg 0
      ∷ entry.Round 1 ∷ entry.Poll 0 true ∷ entry.Reg 1 ∷ entry.Arm 0 15 ∷ entry.Tick 10
      ∷ entry.Round 1 ∷ entry.Poll 1 true ∷ entry.Done 1 ending.Returned ∷ entry.Tick 20 ∷ entry.Ring 0 15
      ∷ entry.Round 1 ∷ entry.Poll 0 true ∷ entry.Wake 1 cause.Wake ∷ entry.Arm 0 50 ∷ entry.Tick 30
      ∷ entry.Round 1 ∷ entry.Skip 1 ∷ entry.Tick 40 ∷ entry.Jump 50 ∷ entry.Ring 0 50
      ∷ entry.Round 1 ∷ entry.Poll 0 true ∷ entry.End end.RootDone ∷ [];
  report = record { rounds = 4; dealt = 5; undealt = 0; registered = 2; woken = 3 };
  time = 50;
  digest = 0x30 ∷ 0xe7 ∷ 0xf9 ∷ 0xc6 ∷ [];
  end = end.RootDone;
  value = Some (pos 0);
  counts = record { iterations = 4; spawned = 1; running = 0; polls = 4 };
  refused = None;
}

-- the clock stands at its limit: the first close ends the run, and nothing is written but the end
abbrev pub clock_at_its_limit : Plan
clock_at_its_limit = record {
  cycle = 1000000;
  start = 18446744073709551615;
  timeout = None;
  catch = false;
  tasks =
      record { name = codes "root"; acts = sleep 0 ∷ await ∷ []; line = 2 } ∷ [];
}

-- what it tells
abbrev pub clock_at_its_limit_told : Told
clock_at_its_limit_told = record {
  log =
      entry.Reg 0
      ∷ entry.Round 1 ∷ entry.Poll 0 true ∷ entry.End end.Clock ∷ [];
  report = record { rounds = 0; dealt = 1; undealt = 0; registered = 1; woken = 0 };
  time = 18446744073709551615;
  digest = 0x3e ∷ 0x98 ∷ 0x6d ∷ 0x42 ∷ [];
  end = end.Clock;
  value = None;
  counts = record { iterations = 0; spawned = 0; running = 0; polls = 1 };
  refused = None;
}

-- the root sleeps past the limit of the clock: the call is refused, and the refusal is its fault
abbrev pub sleep_past_the_limit : Plan
sleep_past_the_limit = record {
  cycle = 1000000;
  start = 1;
  timeout = None;
  catch = false;
  tasks =
      record { name = codes "root"; acts = sleep 18446744073709551615 ∷ []; line = 2 } ∷ [];
}

-- what it tells
abbrev pub sleep_past_the_limit_told : Told
sleep_past_the_limit_told = record {
  log =
      entry.Reg 0
      ∷ entry.Round 1 ∷ entry.Poll 0 true ∷ entry.End end.Fault ∷ [];
  report = record { rounds = 0; dealt = 1; undealt = 0; registered = 1; woken = 0 };
  time = 1;
  digest = 0x8e ∷ 0x18 ∷ 0xe0 ∷ 0x22 ∷ [];
  end = end.Fault;
  value = None;
  counts = record { iterations = 0; spawned = 0; running = 0; polls = 1 };
  refused = Some (record { line = 2; number = 16 });
}

-- these rehearsals come out so
pub record Behaviours : Type 0 where
  pub aborted_while_it_waits_is_so : Tells aborted_while_it_waits aborted_while_it_waits_told
  pub cascade_last_child_first_is_so : Tells cascade_last_child_first cascade_last_child_first_told
  pub first_fault_ends_the_run_is_so : Tells first_fault_ends_the_run first_fault_ends_the_run_told
  pub caught_faults_is_so : Tells caught_faults caught_faults_told
  pub stop_and_completion_is_so : Tells stop_and_completion stop_and_completion_told
  pub woken_after_its_end_is_so : Tells woken_after_its_end woken_after_its_end_told
  pub clock_at_its_limit_is_so : Tells clock_at_its_limit clock_at_its_limit_told
  pub sleep_past_the_limit_is_so : Tells sleep_past_the_limit sleep_past_the_limit_told
