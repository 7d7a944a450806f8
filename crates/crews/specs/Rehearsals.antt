-- Rehearsals worked out: scripts, and all that a run of each comes to.
use Rattle.std.specs.Prelude.{◌≡◌, ℕ, zero, suc, true, false, List, [], ◌∷◌, ◌++◌, ℤ, pos, Some, None, codes, Option}
use Rattle.arrange.specs.Order.{Order, kept}
use Rattle.entry.specs.declared.Entry.{Entry}
use Rattle.entry.specs.declared.Entry.TheVariants as entry
use Rattle.entry.specs.declared.report.Report.{Report}
use Rattle.reasons.specs.declared.cause.Cause.TheVariants as cause
use Rattle.reasons.specs.declared.ending.Ending.TheVariants as ending
use Rattle.reasons.specs.declared.end.End.{End}
use Rattle.reasons.specs.declared.end.End.TheVariants as end
use Rattle.forms.specs.Meaning.{sleep, spawn, wake, await, done, Plan}
use Rattle.deterministic.specs.declared.counts.Counts.{Counts}
use Rattle.deterministic.specs.Calls.{Call, child, close, apply, links_answer}
use Rattle.deterministic.specs.Start.{Settings, Finished, started, run, finished}
use Rattle.crews.specs.Script.{Troupe, Refused, troupe, script_rule}

-- so many times the same entry
unfoldable pub blanks : ℕ → List Entry
blanks zero = []
blanks (suc n) = entry.Reg 0 ∷ blanks n

-- the settings that a script gives
abbrev pub settings_of : Plan → Settings
settings_of p = record { cycle = p.cycle; start = p.start; timeout = p.timeout; catch = p.catch }

-- the ids stay as they stand
abbrev pub keep : Unit {0} → (ids : List ℕ) → Order (Unit {0}) ℕ ids
keep v ids = kept v ids

-- a script is rehearsed over a ledger of 2,048 entries, and no order is changed
abbrev pub rehearsed : Plan → Finished Troupe (Unit {0})
rehearsed p = finished (run script_rule keep (settings_of p) (blanks 2048) (troupe p) tt)

-- all that a rehearsal tells
pub record Told : Type 0 where
  pub log : List Entry
  pub report : Report
  pub time : ℕ
  pub digest : List ℕ
  pub end : End
  pub value : Option ℤ
  pub counts : Counts
  pub refused : Option Refused

-- what a run that has ended tells
abbrev pub told : Finished Troupe (Unit {0}) → Told
told f = record {
  log = f.ledger.log;
  report = f.report;
  time = f.time;
  digest = f.digest;
  end = f.end;
  value = f.value;
  counts = f.counts;
  refused = f.crew.refused;
}

-- the script of the heat: the root spawns a task that sleeps, and sleeps longer itself
abbrev pub heat : Option ℕ → Plan
heat timeout = record {
  cycle = 10;
  start = 0;
  timeout = timeout;
  catch = false;
  tasks =
      record { name = codes "root"; acts = spawn (codes "heat") ∷ sleep 50 ∷ done (pos 7) ∷ []; line = 2 }
      ∷ record { name = codes "heat"; acts = sleep 20 ∷ done (pos 0) ∷ []; line = 3 } ∷ [];
}

-- its first three rounds, until the clock has jumped to the root's alarm
abbrev pub heat_begins : List Entry → List Entry
heat_begins rest =
    entry.Reg 0 ∷ entry.Round 1 ∷ entry.Poll 0 true ∷ entry.Reg 1 ∷ entry.Arm 0 50 ∷ entry.Tick 10
    ∷ entry.Round 1 ∷ entry.Poll 1 true ∷ entry.Arm 1 30 ∷ entry.Tick 20 ∷ entry.Jump 30 ∷ entry.Ring 1 30
    ∷ entry.Round 1 ∷ entry.Poll 1 true ∷ entry.Done 1 ending.Returned ∷ entry.Tick 40 ∷ entry.Jump 50 ∷ rest

-- the heat, to its end
abbrev pub heat_told : Told
heat_told = record {
  log = heat_begins (entry.Ring 0 50 ∷ entry.Round 1 ∷ entry.Poll 0 true ∷ entry.End end.RootDone ∷ []);
  report = record { rounds = 3; dealt = 4; undealt = 0; registered = 2; woken = 2 };
  time = 50;
  digest = 0x23 ∷ 0x07 ∷ 0x1c ∷ 0x62 ∷ [];
  end = end.RootDone;
  value = Some (pos 7);
  counts = record { iterations = 3; spawned = 1; running = 0; polls = 4 };
  refused = None;
}

-- with a timeout of 50 the run is out of time once the clock has jumped to 50, before the root's alarm rings
abbrev pub heat_out_of_time : Told
heat_out_of_time = record {
  log = heat_begins (entry.End end.Timeout ∷ []);
  report = record { rounds = 2; dealt = 3; undealt = 0; registered = 2; woken = 1 };
  time = 50;
  digest = 0x45 ∷ 0xfb ∷ 0x45 ∷ 0xa9 ∷ [];
  end = end.Timeout;
  value = None;
  counts = record { iterations = 2; spawned = 1; running = 0; polls = 3 };
  refused = None;
}

-- with a timeout of 0 the run is out of time before its first round, and the root stays undealt
abbrev pub heat_not_begun : Told
heat_not_begun = record {
  log = entry.Reg 0 ∷ entry.End end.Timeout ∷ [];
  report = record { rounds = 0; dealt = 0; undealt = 1; registered = 1; woken = 0 };
  time = 0;
  digest = 0 ∷ 0 ∷ 0 ∷ 0 ∷ [];
  end = end.Timeout;
  value = None;
  counts = record { iterations = 0; spawned = 0; running = 0; polls = 0 };
  refused = None;
}

-- a root that only awaits the stop signal
abbrev pub waiting_root : Plan
waiting_root = record {
  cycle = 10;
  start = 0;
  timeout = None;
  catch = false;
  tasks = record { name = codes "root"; acts = await ∷ []; line = 2 } ∷ [];
}

-- it stalls at its first close
abbrev pub stalls_at_once : Told
stalls_at_once = record {
  log = entry.Reg 0 ∷ entry.Round 1 ∷ entry.Poll 0 true ∷ entry.Tick 10 ∷ entry.End end.Stalled ∷ [];
  report = record { rounds = 0; dealt = 1; undealt = 0; registered = 1; woken = 0 };
  time = 10;
  digest = 0x3e ∷ 0x98 ∷ 0x6d ∷ 0x42 ∷ [];
  end = end.Stalled;
  value = None;
  counts = record { iterations = 0; spawned = 0; running = 0; polls = 1 };
  refused = None;
}

-- the heat, which the root wakes twice after it has spawned it
abbrev pub heat_woken_twice : Plan
heat_woken_twice = record {
  cycle = 10;
  start = 0;
  timeout = None;
  catch = false;
  tasks =
      record { name = codes "root"; acts = spawn (codes "heat") ∷ wake (codes "heat") ∷ wake (codes "heat") ∷ sleep 50 ∷ done (pos 7) ∷ []; line = 2 }
      ∷ record { name = codes "heat"; acts = sleep 20 ∷ done (pos 0) ∷ []; line = 3 } ∷ [];
}

-- it is dealt three times in the second round, and arms its alarm once
abbrev pub dealt_three_times : Told
dealt_three_times = record {
  log =
      entry.Reg 0 ∷ entry.Round 1 ∷ entry.Poll 0 true ∷ entry.Reg 1 ∷ entry.Wake 1 cause.Wake ∷ entry.Wake 1 cause.Wake ∷ entry.Arm 0 50 ∷ entry.Tick 10
      ∷ entry.Round 3 ∷ entry.Poll 1 true ∷ entry.Arm 1 30 ∷ entry.Poll 1 true ∷ entry.Poll 1 true ∷ entry.Tick 20 ∷ entry.Jump 30 ∷ entry.Ring 1 30
      ∷ entry.Round 1 ∷ entry.Poll 1 true ∷ entry.Done 1 ending.Returned ∷ entry.Tick 40 ∷ entry.Jump 50 ∷ entry.Ring 0 50
      ∷ entry.Round 1 ∷ entry.Poll 0 true ∷ entry.End end.RootDone ∷ [];
  report = record { rounds = 3; dealt = 6; undealt = 0; registered = 2; woken = 4 };
  time = 50;
  digest = 0x53 ∷ 0xaf ∷ 0xbe ∷ 0xa0 ∷ [];
  end = end.RootDone;
  value = Some (pos 7);
  counts = record { iterations = 3; spawned = 1; running = 0; polls = 6 };
  refused = None;
}

-- the root's context has so many children, whose contexts are closed one after another: this is the next one's serial
unfoldable pub bereaved : ℕ → ℕ → List Call
bereaved zero serial = []
bereaved (suc n) serial = child 0 ∷ close serial ∷ bereaved n (suc serial)

-- so many children of the root's context die, and then one more is born: how many links the context has
abbrev pub links_after : ℕ → ℕ
links_after dead = links_answer 0 (apply (bereaved dead 1 ++ child 0 ∷ []) (started (settings_of waiting_root) (blanks 1024)))

-- a rehearsal of the script tells this
abbrev pub Tells : Plan → Told → Type 0
Tells p t = told (rehearsed p) ≡ t

-- the rehearsals and situations, each by what happens in it
pub record Rehearsals : Type 0 where
  pub heat_is_done : Tells (heat None) heat_told
  pub timeout_at_the_jump : Tells (heat (Some 50)) heat_out_of_time
  pub timeout_after_the_ring : Tells (heat (Some 51)) heat_told
  pub timeout_before_the_first_round : Tells (heat (Some 0)) heat_not_begun
  pub root_that_awaits_stalls : Tells waiting_root stalls_at_once
  pub woken_twice_is_dealt_three_times : Tells heat_woken_twice dealt_three_times
  pub thirty_one_dead_links_stay : links_after 31 ≡ 32
  pub thirty_two_dead_links_go : links_after 32 ≡ 1
