-- Every call of a body leaves registry and tree as they were told.
use Rattle.std.proofs.Common.{◌≡◌, ℕ, ◌+◌, Bool, true, false, cond, List, [], ◌∷◌, Some, None, Option, refl}
use Rattle.std.proofs.lemmas.Bool.{cond_both}
use Rattle.keyed.proofs.Finds.{some_not_none}
use Rattle.reasons.specs.declared.cause.Cause.TheVariants as cause
use Rattle.lineage.specs.Family.{open_for, aborted_at}
use Rattle.alarms.specs.Model.{alarm_of}
use Rattle.signal.specs.Model as stops
use Rattle.signal.specs.Model.{stop_wakes, completion_wakes}
use Rattle.deterministic.specs.declared.refusal.Refusal.{Refusal}
use Rattle.deterministic.specs.declared.refusal.Refusal.TheVariants as refused
use Rattle.deterministic.specs.Model.{Model, one_spawned}
use Rattle.deterministic.specs.Moves.{arm, quiet, grant, tally, move}
use Rattle.deterministic.specs.Refusals.{◌else◌, caller, call_granted, room, context_held, label_short, not_aborted, task_free, node_left, link_left, place_free, reached}
use Rattle.deterministic.specs.Calls.{Call, current, child, close, links, spawn, sleep, sleep_until, wake, abort, stop, stopped, signal, completed, let_go, refusal, arming, does, spending, if_aborted, despite, doings_by, doings}
use Rattle.laws.proofs.Story.{else_none, unless_none}
use Rattle.laws.proofs.KinMoves.{Leads, Silent, leads_silent, silent_wakes, Watching, leads_close, leads_plant, leads_spawn}
use Rattle.laws.proofs.KinEnding.{leads_marking}

-- a context that is not refused as aborted is not aborted
not_aborted_none : (b : Bool) (r : Refusal) → cond b (Some r) None ≡ None → b ≡ false
not_aborted_none true r h = absurd (some_not_none h refl)
not_aborted_none false r h = refl

-- a granted `child` asks for a context that its task holds
child_held : (c : ℕ) (m : Model) → refusal (child c) m ≡ None → open_for (caller m) c m.tree ≡ true
child_held c m h =
    let rest = (else_none (call_granted m) (context_held c m else node_left m else link_left c m) h).1 in
    unless_none (open_for (caller m) c m.tree) refused.NotOpen (else_none (context_held c m) (node_left m else link_left c m) rest).0

-- so does a granted `spawn`
spawn_held : (c : ℕ) (label : List ℕ) (m : Model) → refusal (spawn c label) m ≡ None → open_for (caller m) c m.tree ≡ true
spawn_held c label m h =
    let after_held = label_short label else not_aborted c m else task_free m else node_left m else link_left c m else place_free m in
    let rest = (else_none (room m) (context_held c m else after_held) h).1 in
    unless_none (open_for (caller m) c m.tree) refused.NotOpen (else_none (context_held c m) after_held rest).0

-- which is not aborted
spawn_unaborted : (c : ℕ) (label : List ℕ) (m : Model) → refusal (spawn c label) m ≡ None → aborted_at c m.tree ≡ false
spawn_unaborted c label m h =
    let after_flag = task_free m else node_left m else link_left c m else place_free m in
    let after_label = not_aborted c m else after_flag in
    let held = (else_none (room m) (context_held c m else label_short label else after_label) h).1 in
    let short = (else_none (context_held c m) (label_short label else after_label) held).1 in
    let flag = (else_none (label_short label) after_label short).1 in
    not_aborted_none (aborted_at c m.tree) refused.ContextAborted (else_none (not_aborted c m) after_flag flag).0

silent_arming : (t : ℕ) (serial : Option ℕ) (m : Model) → Silent (arming t serial m)
silent_arming t None m = cond_both (reached t m) [] (arm (alarm_of m.alarms (caller m) t) ∷ []) Silent (λ _. tt) (λ _. tt)
silent_arming t (Some serial) m = tt

-- what a granted call does
leads_does : (c : Call) (m : Model) → refusal c m ≡ None → Leads (Watching []) (does c m) (move (quiet grant) m) (Watching [])
leads_does current m h = leads_silent (Watching []) [] (move (quiet grant) m) tt
leads_does (child c) m h = leads_plant [] c (caller m) (move (quiet grant) m) (child_held c m h)
leads_does (close c) m h = leads_close [] c (move (quiet grant) m)
leads_does (links c) m h = leads_silent (Watching []) [] (move (quiet grant) m) tt
leads_does (spawn c label) m h = leads_spawn c (caller m) label (move (quiet grant) m) (spawn_held c label m h) (spawn_unaborted c label m h)
leads_does (sleep d serial) m h = leads_silent (Watching []) (arming (m.clock.time + d) serial m) (move (quiet grant) m) (silent_arming (m.clock.time + d) serial m)
leads_does (sleep_until t serial) m h = leads_silent (Watching []) (arming t serial m) (move (quiet grant) m) (silent_arming t serial m)
leads_does (wake i) m h = leads_silent (Watching []) (does (wake i) m) (move (quiet grant) m) tt
leads_does (abort i) m h =
    λ told ok. (leads_marking (λ _ _ _. Unit {0}) (λ _ _ _ _ _. tt) [] [] i (move (quiet grant) m) (λ _ z. absurd z) told (ok, tt)).0
leads_does (stop v) m h = leads_silent (Watching []) (does (stop v) m) (move (quiet grant) m) (silent_wakes cause.Stop (stop_wakes m.stop))
leads_does stopped m h = leads_silent (Watching []) (does stopped m) (move (quiet grant) m) tt
leads_does signal m h = leads_silent (Watching []) (does signal m) (move (quiet grant) m) tt
leads_does completed m h = leads_silent (Watching []) (does completed m) (move (quiet grant) m) tt
leads_does let_go m h = leads_silent (Watching []) (does let_go m) (move (quiet grant) m) (silent_wakes cause.Stop (completion_wakes m.stop (stops.let_go (caller m) m.stop)))

-- what a spawn does that is refused
leads_if_aborted : (r : Refusal) (c : ℕ) (m : Model) → Leads (Watching []) (if_aborted r (spending c m)) m (Watching [])
leads_if_aborted refused.NoRoom c m = leads_silent (Watching []) [] m tt
leads_if_aborted refused.UnknownTask c m = leads_silent (Watching []) [] m tt
leads_if_aborted refused.NotOpen c m = leads_silent (Watching []) [] m tt
leads_if_aborted refused.LabelTooLong c m = leads_silent (Watching []) [] m tt
leads_if_aborted refused.TooManyTasks c m = leads_silent (Watching []) [] m tt
leads_if_aborted refused.TooManyNodes c m = leads_silent (Watching []) [] m tt
leads_if_aborted refused.TooManyLinks c m = leads_silent (Watching []) [] m tt
leads_if_aborted refused.ContextAborted c m = leads_close [] c (move (quiet (tally (one_spawned m.counts))) m)
leads_if_aborted refused.TooManyWaiting c m = leads_silent (Watching []) [] m tt
leads_if_aborted refused.TooManyAlarms c m = leads_silent (Watching []) [] m tt
leads_if_aborted refused.NotOwnAlarm c m = leads_silent (Watching []) [] m tt
leads_if_aborted refused.TimeTooLarge c m = leads_silent (Watching []) [] m tt
leads_if_aborted refused.NoSignal c m = leads_silent (Watching []) [] m tt

-- what a refused call does
leads_despite : (r : Refusal) (c : Call) (m : Model) → Leads (Watching []) (despite r c m) m (Watching [])
leads_despite r current m = leads_silent (Watching []) [] m tt
leads_despite r (child c) m = leads_silent (Watching []) [] m tt
leads_despite r (close c) m = leads_silent (Watching []) [] m tt
leads_despite r (links c) m = leads_silent (Watching []) [] m tt
leads_despite r (spawn c label) m = leads_if_aborted r c m
leads_despite r (sleep d serial) m = leads_silent (Watching []) [] m tt
leads_despite r (sleep_until t serial) m = leads_silent (Watching []) [] m tt
leads_despite r (wake i) m = leads_silent (Watching []) [] m tt
leads_despite r (abort i) m = leads_silent (Watching []) [] m tt
leads_despite r (stop v) m = leads_silent (Watching []) [] m tt
leads_despite r stopped m = leads_silent (Watching []) [] m tt
leads_despite r signal m = leads_silent (Watching []) [] m tt
leads_despite r completed m = leads_silent (Watching []) [] m tt
leads_despite r let_go m = leads_silent (Watching []) [] m tt

leads_by : (c : Call) (m : Model) (o : Option Refusal) → refusal c m ≡ o → Leads (Watching []) (doings_by o c m) m (Watching [])
leads_by c m None h = leads_does c m h
leads_by c m (Some r) h = leads_despite r c m

-- every call
pub leads_call : (c : Call) (m : Model) → Leads (Watching []) (doings c m) m (Watching [])
leads_call c m = leads_by c m (refusal c m) refl
