-- Rehearsals of what is the crew's own to do: whom a name means, where a task goes on, when a signal is let go, which calls a step
-- makes, which refusal is told, and with which code a body faults.
use Rattle.std.specs.Prelude.{◌≡◌, ℕ, ◌-◌, ◌^◌, true, false, List, [], ◌∷◌, pos, Some, None, codes, Option}
use Rattle.entry.specs.declared.Entry.TheVariants as entry
use Rattle.reasons.specs.declared.cause.Cause.TheVariants as cause
use Rattle.reasons.specs.declared.ending.Ending.TheVariants as ending
use Rattle.reasons.specs.declared.end.End.TheVariants as end
use Rattle.forms.specs.Meaning.{sleep, spawn, wake, abort, stop, await, done, fault, Plan}
use Rattle.deterministic.specs.Calls as calls
use Rattle.deterministic.specs.Calls.{Call, apply}
use Rattle.deterministic.specs.Start.{started}
use Rattle.deterministic.specs.Model.{Model}
use Rattle.deterministic.specs.Rules.{Turn}
use Rattle.crews.specs.Script.{Troupe, meant, troupe, script_rule}
use Rattle.crews.specs.Rehearsals.{blanks, settings_of, rehearsed, waiting_root, Told, Tells}
use Rattle.crews.specs.Behaviours.{first_fault_ends_the_run, sleep_past_the_limit}

-- a name is spawned twice, and then woken: it is the second task that is woken
abbrev pub name_spawned_twice : Plan
name_spawned_twice = record {
  cycle = 10;
  start = 0;
  timeout = None;
  catch = false;
  tasks =
      record { name = codes "root"; acts = spawn (codes "a") ∷ spawn (codes "a") ∷ wake (codes "a") ∷ sleep 30 ∷ []; line = 2 }
      ∷ record { name = codes "a"; acts = await ∷ []; line = 3 } ∷ [];
}

-- what it tells
abbrev pub latest_is_woken : Told
latest_is_woken = record {
  log =
      entry.Reg 0
      ∷ entry.Round 1 ∷ entry.Poll 0 true ∷ entry.Reg 1 ∷ entry.Reg 2 ∷ entry.Wake 2 cause.Wake ∷ entry.Arm 0 30 ∷ entry.Tick 10
      ∷ entry.Round 3 ∷ entry.Poll 1 true ∷ entry.Poll 2 true ∷ entry.Poll 2 true ∷ entry.Tick 20 ∷ entry.Jump 30 ∷ entry.Ring 0 30
      ∷ entry.Round 1 ∷ entry.Poll 0 true ∷ entry.End end.RootDone ∷ [];
  report = record { rounds = 2; dealt = 5; undealt = 0; registered = 3; woken = 2 };
  time = 30;
  digest = 0x1a ∷ 0x0d ∷ 0x87 ∷ 0x62 ∷ [];
  end = end.RootDone;
  value = Some (pos 0);
  counts = record { iterations = 2; spawned = 2; running = 2; polls = 5 };
  refused = None;
}

-- a task awaits the stop and then sleeps on: completion comes in the turn in which it gets its answer, and not at its end
abbrev pub sleeper_after_the_stop : Plan
sleeper_after_the_stop = record {
  cycle = 10;
  start = 0;
  timeout = None;
  catch = false;
  tasks =
      record { name = codes "root"; acts = spawn (codes "a") ∷ sleep 15 ∷ stop (pos 1) ∷ done (pos 7) ∷ []; line = 2 }
      ∷ record { name = codes "a"; acts = await ∷ sleep 100 ∷ []; line = 3 } ∷ [];
}

-- what it tells
abbrev pub signal_is_let_go : Told
signal_is_let_go = record {
  log =
      entry.Reg 0
      ∷ entry.Round 1 ∷ entry.Poll 0 true ∷ entry.Reg 1 ∷ entry.Arm 0 15 ∷ entry.Tick 10
      ∷ entry.Round 1 ∷ entry.Poll 1 true ∷ entry.Tick 20 ∷ entry.Ring 0 15
      ∷ entry.Round 1 ∷ entry.Poll 0 true ∷ entry.Wake 1 cause.Stop ∷ entry.Tick 30
      ∷ entry.Round 1 ∷ entry.Poll 1 true ∷ entry.Wake 0 cause.Stop ∷ entry.Arm 1 130 ∷ entry.Tick 40
      ∷ entry.Round 1 ∷ entry.Poll 0 true ∷ entry.End end.RootDone ∷ [];
  report = record { rounds = 4; dealt = 5; undealt = 0; registered = 2; woken = 3 };
  time = 40;
  digest = 0x8b ∷ 0x68 ∷ 0xc2 ∷ 0xb0 ∷ [];
  end = end.RootDone;
  value = Some (pos 7);
  counts = record { iterations = 4; spawned = 1; running = 1; polls = 5 };
  refused = None;
}

-- one task wakes a name that has no task yet, another sleeps past the limit of the clock, and faults are caught
abbrev pub two_refused_calls : Plan
two_refused_calls = record {
  cycle = 10;
  start = 0;
  timeout = None;
  catch = true;
  tasks =
      record { name = codes "root"; acts = spawn (codes "a") ∷ spawn (codes "b") ∷ sleep 30 ∷ []; line = 3 }
      ∷ record { name = codes "a"; acts = wake (codes "c") ∷ []; line = 4 }
      ∷ record { name = codes "b"; acts = sleep 18446744073709551615 ∷ []; line = 5 }
      ∷ record { name = codes "c"; acts = []; line = 6 } ∷ [];
}

-- what it tells
abbrev pub first_refusal_is_told : Told
first_refusal_is_told = record {
  log =
      entry.Reg 0
      ∷ entry.Round 1 ∷ entry.Poll 0 true ∷ entry.Reg 1 ∷ entry.Reg 2 ∷ entry.Arm 0 30 ∷ entry.Tick 10
      ∷ entry.Round 2 ∷ entry.Poll 1 true ∷ entry.Done 1 ending.Faulted ∷ entry.Poll 2 true ∷ entry.Done 2 ending.Faulted ∷ entry.Tick 20 ∷ entry.Jump 30 ∷ entry.Ring 0 30
      ∷ entry.Round 1 ∷ entry.Poll 0 true ∷ entry.End end.RootDone ∷ [];
  report = record { rounds = 2; dealt = 4; undealt = 0; registered = 3; woken = 1 };
  time = 30;
  digest = 0x74 ∷ 0xaa ∷ 0x7b ∷ 0x0f ∷ [];
  end = end.RootDone;
  value = Some (pos 0);
  counts = record { iterations = 2; spawned = 2; running = 0; polls = 4 };
  refused = Some (record { line = 4; number = 6 });
}

-- the root spawns a; a spawns a name that is longer than a label may be, which is refused; then the root spawns b and wakes that name
abbrev pub spawn_that_is_refused : Plan
spawn_that_is_refused = record {
  cycle = 10;
  start = 0;
  timeout = None;
  catch = true;
  tasks =
      record { name = codes "root"; acts = spawn (codes "a") ∷ sleep 15 ∷ spawn (codes "b") ∷ wake (codes "a-name-that-is-longer-than-a-label") ∷ []; line = 3 }
      ∷ record { name = codes "a"; acts = spawn (codes "a-name-that-is-longer-than-a-label") ∷ []; line = 4 }
      ∷ record { name = codes "b"; acts = []; line = 5 }
      ∷ record { name = codes "a-name-that-is-longer-than-a-label"; acts = []; line = 6 } ∷ [];
}

-- it tells that the name has no task, and b, which got the id that the name's task would have got, is not woken
abbrev pub name_has_no_task : Told
name_has_no_task = record {
  log =
      entry.Reg 0
      ∷ entry.Round 1 ∷ entry.Poll 0 true ∷ entry.Reg 1 ∷ entry.Arm 0 15 ∷ entry.Tick 10
      ∷ entry.Round 1 ∷ entry.Poll 1 true ∷ entry.Done 1 ending.Faulted ∷ entry.Tick 20 ∷ entry.Ring 0 15
      ∷ entry.Round 1 ∷ entry.Poll 0 true ∷ entry.Reg 2 ∷ entry.End end.Fault ∷ [];
  report = record { rounds = 2; dealt = 3; undealt = 1; registered = 3; woken = 1 };
  time = 20;
  digest = 0x41 ∷ 0x2c ∷ 0xdd ∷ 0xc3 ∷ [];
  end = end.Fault;
  value = None;
  counts = record { iterations = 2; spawned = 2; running = 1; polls = 3 };
  refused = Some (record { line = 4; number = 8 });
}

-- the root wakes itself, stops, and is so polled before completion; a spawns after it has slept, and aborts a name without a task
abbrev pub woken_before_completion : Plan
woken_before_completion = record {
  cycle = 10;
  start = 0;
  timeout = None;
  catch = true;
  tasks =
      record { name = codes "root"; acts = spawn (codes "a") ∷ spawn (codes "b") ∷ sleep 25 ∷ wake (codes "root") ∷ stop (pos 2) ∷ done (pos 1) ∷ []; line = 3 }
      ∷ record { name = codes "a"; acts = sleep 5 ∷ spawn (codes "b") ∷ abort (codes "c") ∷ []; line = 4 }
      ∷ record { name = codes "b"; acts = await ∷ []; line = 5 }
      ∷ record { name = codes "c"; acts = []; line = 6 } ∷ [];
}

-- it tells that each goes on where it waited, as itself: a on its own context and line, and the root not before completion
abbrev pub each_goes_on : Told
each_goes_on = record {
  log =
      entry.Reg 0
      ∷ entry.Round 1 ∷ entry.Poll 0 true ∷ entry.Reg 1 ∷ entry.Reg 2 ∷ entry.Arm 0 25 ∷ entry.Tick 10
      ∷ entry.Round 2 ∷ entry.Poll 1 true ∷ entry.Arm 1 15 ∷ entry.Poll 2 true ∷ entry.Tick 20 ∷ entry.Ring 1 15
      ∷ entry.Round 1 ∷ entry.Poll 1 true ∷ entry.Reg 3 ∷ entry.Mark 3 ∷ entry.Done 1 ending.Faulted ∷ entry.Tick 30 ∷ entry.Ring 0 25
      ∷ entry.Round 2 ∷ entry.Poll 3 false ∷ entry.Done 3 ending.Aborted ∷ entry.Poll 0 true ∷ entry.Wake 0 cause.Wake ∷ entry.Wake 2 cause.Stop ∷ entry.Tick 40
      ∷ entry.Round 2 ∷ entry.Poll 0 true ∷ entry.Poll 2 true ∷ entry.Wake 0 cause.Stop ∷ entry.Done 2 ending.Returned ∷ entry.Tick 50
      ∷ entry.Round 1 ∷ entry.Poll 0 true ∷ entry.End end.RootDone ∷ [];
  report = record { rounds = 5; dealt = 9; undealt = 0; registered = 4; woken = 5 };
  time = 50;
  digest = 0xbd ∷ 0x28 ∷ 0xb0 ∷ 0x43 ∷ [];
  end = end.RootDone;
  value = Some (pos 1);
  counts = record { iterations = 5; spawned = 3; running = 0; polls = 9 };
  refused = Some (record { line = 4; number = 6 });
}

-- the root faults by its own step
abbrev pub faulty_root : Plan
faulty_root = record {
  cycle = 10;
  start = 0;
  timeout = None;
  catch = false;
  tasks = record { name = codes "root"; acts = fault 9 ∷ []; line = 2 } ∷ [];
}

-- the root goes through each step that does not end its body, and waits in the last
abbrev pub each_step : Plan
each_step = record {
  cycle = 10;
  start = 0;
  timeout = None;
  catch = false;
  tasks =
      record { name = codes "root"; acts = spawn (codes "a") ∷ wake (codes "a") ∷ abort (codes "a") ∷ stop (pos 1) ∷ await ∷ sleep 5 ∷ []; line = 2 }
      ∷ record { name = codes "a"; acts = []; line = 3 } ∷ [];
}

-- the executor at the root's first turn
abbrev pub at_first : Plan → Model
at_first p = started (settings_of p) (blanks 1024)

-- that turn
abbrev pub first_turn : Plan → Turn Troupe
first_turn p = script_rule (troupe p) 0 (at_first p)

-- the calls of that turn
abbrev pub first_calls : Plan → List Call
first_calls p = (first_turn p).calls

-- the calls of the root's next turn, if nothing else has happened
abbrev pub next_calls : Plan → List Call
next_calls p = (script_rule (first_turn p).value 0 (apply (first_calls p) (at_first p))).calls

-- each step's own calls, in order
abbrev pub calls_of_each_step : List Call
calls_of_each_step =
    calls.child 0 ∷ calls.spawn 1 (codes "a")
    ∷ calls.wake 1
    ∷ calls.abort 1
    ∷ calls.stop (pos 1) ∷ calls.completed
    ∷ calls.stopped ∷ calls.signal ∷ calls.let_go
    ∷ calls.current ∷ calls.sleep 5 None ∷ []

-- a sleep past the limit of the clock, which is refused: it is a call all the same
abbrev pub calls_of_a_refused_sleep : List Call
calls_of_a_refused_sleep = calls.current ∷ calls.sleep 18446744073709551615 None ∷ []

-- the rehearsal ends with a fault of this code, or without one
abbrev pub FaultsWith : Plan → Option ℕ → Type 0
FaultsWith p code = (rehearsed p).code ≡ code

-- the crew does its part so
pub record Duties : Type 0 where
  pub a_name_means_its_latest_task : Tells name_spawned_twice latest_is_woken
  pub a_signal_is_let_go_once_it_answers : Tells sleeper_after_the_stop signal_is_let_go
  pub the_first_refusal_stays : Tells two_refused_calls first_refusal_is_told
  pub each_goes_on_where_it_waited : Tells woken_before_completion each_goes_on
  pub a_name_without_a_task_means_no_id : (name : List ℕ) → meant name [] ≡ 2 ^ 64 - 1
  pub a_refused_spawn_names_no_task : Tells spawn_that_is_refused name_has_no_task
  pub each_step_makes_its_calls : first_calls each_step ≡ calls_of_each_step
  pub a_sleeper_asks_by_its_serial : next_calls each_step ≡ calls.sleep_until 5 (Some 0) ∷ []
  pub a_waiting_task_asks_its_signal : next_calls waiting_root ≡ calls.signal ∷ []
  pub a_refused_call_is_made : first_calls sleep_past_the_limit ≡ calls_of_a_refused_sleep
  pub a_fault_has_its_code : FaultsWith first_fault_ends_the_run (Some 7)
  pub a_refusal_is_a_fault_with_its_number : FaultsWith sleep_past_the_limit (Some 16)
  pub a_fault_of_the_root_has_its_code : FaultsWith faulty_root (Some 9)
  pub another_refusal_has_another_number : FaultsWith spawn_that_is_refused (Some 6)
  pub caught_faults_leave_no_code : FaultsWith two_refused_calls None
