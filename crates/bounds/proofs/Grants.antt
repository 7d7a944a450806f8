-- A granted call keeps the bounds: one lemma for each call.
use Rattle.std.proofs.Common.{◌≡◌, ℕ, ◌+◌, ◌<◌, ◌≤◌, Bool, true, false, cond, eqb, List, [], ◌∷◌, ◌++◌, length, ℤ, Some, None, Option, sym, refl, ap, ◌∙◌, arith}
use lib.ListN.{length-map}
use Rattle.std.proofs.lemmas.List.{length_push, map_push}
use Rattle.std.proofs.lemmas.Bool.{ne_eqb}
use Rattle.entry.specs.declared.Entry.TheVariants as entry
use Rattle.reasons.specs.declared.cause.Cause.TheVariants as cause
use Rattle.roster.specs.Row.{task_of}
use Rattle.roster.proofs.Tasks.{tasks_entered}
use Rattle.lineage.specs.Family.{open_for}
use Rattle.supervision.specs.Calls.{closed}
use Rattle.alarms.specs.declared.Alarm.{Alarm}
use Rattle.alarms.specs.Model.{alarm_of}
use Rattle.signal.specs.Model as stops
use Rattle.signal.specs.Model.{Stops, stop_wakes, completion_wakes}
use Rattle.auditor.specs.Events as event
use Rattle.growth.proofs.Growth.{child_next, child_opens, child_seats, seated_next, seated_opens, seated_seats, closed_next, closed_opens, closed_opens_held, closed_seats}
use Rattle.ledger.proofs.Books.{free_written}
use Rattle.deterministic.specs.Model.{Model, free, task_at, new_task, id_of}
use Rattle.deterministic.specs.Moves.{arm, quiet, grant, audit, signals, move, moves}
use Rattle.deterministic.specs.Refusals.{caller, reached}
use Rattle.deterministic.specs.Calls.{child, close, spawn, wake, abort, stop, stopped, signal, completed, let_go, does, spending, arming}
use Rattle.deterministic.specs.Bounds.{Sound, Calm, Spare}
use Rattle.bounds.specs.Kept.{Bounded}
use Rattle.deterministic.proofs.Unmarked.{unmarked_length, unmarked_push}
use Rattle.bounds.proofs.Numbers.{rows_length}
use Rattle.bounds.proofs.Held.{Held, all, held, sound, held_digest, held_tree, held_stop, held_granted, held_queued}
use Rattle.bounds.proofs.Signals.{Turned, given_turned, awaiting_turned, asking_turned, let_go_turned, stop_wakes_few, let_go_wakes}
use Rattle.bounds.proofs.Wakes.{load, allowance, woken, held_wakes}
use Rattle.bounds.proofs.Marks.{marks_once}

-- the bounds from their parts
bounded : (n : Model) → Held all n → load n ≤ 320 + allowance n → 447 ≤ free n → Bounded n
bounded n h calm spare = record { sound = sound n h; calm = calm; spare = spare }

module _ (m : Model) (s : Sound m) (calm : Calm m) (spare : Spare m) (less : m.body.granted < 4096) where
  -- the executor after the grant
  abbrev granted : Model
  granted = move (quiet grant) m

  stands : Held all granted
  stands = held_granted all m (held m s) less

  -- a call that asks alone
  pub asks : Bounded granted
  asks = bounded granted stands calm spare

  pub child_keeps : (c : ℕ) → Bounded (moves (does (child c) m) granted)
  child_keeps c =
      let next = child_next (caller m) c m.tree in
      let opens = child_opens (caller m) c m.tree in
      let n = s.numbered in
      bounded (moves (does (child c) m) granted) (record {
        listed = s.listed;
        list_next = s.list_next;
        few = s.few;
        seated = λ k le. child_seats k (caller m) c m.tree ∙ s.seated k le;
        numbered = omega (arith, n, next, opens);
      }) calm spare

  pub close_keeps : (c : ℕ) → Bounded (moves (does (close c) m) granted)
  close_keeps c =
      bounded (moves (does (close c) m) granted)
      (held_tree all granted stands (closed c m.tree) (closed_next c m.tree) (closed_opens c m.tree) (λ k. closed_seats k c m.tree))
      calm spare

  pub spawn_keeps : (c : ℕ) (label : List ℕ) → 512 ≤ free m → open_for (caller m) c m.tree ≡ true → length m.registry.tasks < 64 → length m.queues.waiting < 256 → Bounded (moves (does (spawn c label) m) granted)
  spawn_keeps c label room is_open task_free place_free =
      let i = m.registry.next in
      let n = s.numbered in
      let next = seated_next c i m.tree in
      let opens = seated_opens (caller m) c i m.tree is_open in
      let fewer = free_written (entry.Reg i) m.ledger (omega arith) in
      let longer = length_push m.ledger.log (entry.Reg i) in
      let more = length_push m.queues.waiting i in
      let tasks = length_push m.registry.tasks (new_task i label (Some c)) in
      let one_more = unmarked_push m.registry.tasks i label (Some c) in
      let most = unmarked_length m.registry.tasks in
      bounded (moves (does (spawn c label) m) granted) (record {
        listed = tasks_entered i m.stop.roll ∙ (ap (λ (l : List ℕ). l ++ i ∷ []) s.listed ∙ sym (map_push id_of m.registry.tasks (new_task i label (Some c))));
        list_next = refl;
        few = omega arith;
        seated = λ k le. (let other : eqb i k ≡ false = ne_eqb i k (λ e. omega (arith, e)) in omega (arith, seated_seats k c i m.tree other, s.seated k (omega arith)));
        numbered = omega (arith, n, next, opens, fewer, longer);
      }) (omega arith) (omega arith)

  pub arm_keeps : (a : Alarm) → 512 ≤ free m → Bounded (move (arm a) granted)
  arm_keeps a room =
      let n = s.numbered in
      let fewer = free_written (entry.Arm a.task a.time) m.ledger (omega arith) in
      let longer = length_push m.ledger.log (entry.Arm a.task a.time) in
      bounded (move (arm a) granted) (record { listed = s.listed; list_next = s.list_next; few = s.few; seated = s.seated; numbered = omega (arith, n, fewer, longer) }) calm (omega arith)

  pub sleep_keeps : (t : ℕ) (serial : Option ℕ) → 512 ≤ free m → Bounded (moves (arming t serial m) granted)
  sleep_keeps t (Some serial) room = asks
  sleep_keeps t None room = go (reached t m) where
    a : Alarm
    a = alarm_of m.alarms (caller m) t

    go : (b : Bool) → Bounded (moves (cond b [] (arm a ∷ [])) granted)
    go true = asks
    go false = arm_keeps a room

  pub wake_keeps : (i : ℕ) → 512 ≤ free m → length m.queues.waiting < 256 → Bounded (moves (does (wake i) m) granted)
  wake_keeps i room place_free =
      let fewer = free_written (entry.Wake i cause.Wake) m.ledger (omega arith) in
      let more = length_push m.queues.waiting i in
      let most = unmarked_length m.registry.tasks in
      bounded (moves (does (wake i) m) granted) (held_queued all granted stands i (entry.Wake i cause.Wake) (omega arith)) (omega (arith, s.few)) (omega arith)

  pub abort_keeps : (i : ℕ) → 512 ≤ free m → Bounded (moves (does (abort i) m) granted)
  abort_keeps i room =
      let most = unmarked_length m.registry.tasks in
      let once = marks_once all granted stands (omega (arith, s.few)) i (task_at i m) refl in
      bounded (moves (does (abort i) m) granted) once.marks.stands (omega (arith, calm, once.marks.loaded, once.marks.allowed)) (omega (arith, once.wrote))

  -- no more tasks are listed than may be registered
  rows_few : length m.stop.roll.rows ≤ 64
  rows_few = omega (arith, s.few, rows_length m.stop.roll.rows m.registry.tasks s.listed)

  -- the stop signal turns, and nothing is written
  turned_keeps : (S : Stops) → Turned m.stop S → Bounded (move (quiet (signals S)) granted)
  turned_keeps S t =
      bounded (move (quiet (signals S)) granted) (held_stop all granted stands S t.ids t.next) (omega (arith, calm, t.stays)) spare

  pub stop_keeps : (v : ℤ) → 512 ≤ free m → Bounded (moves (does (stop v) m) granted)
  stop_keeps v room =
      let S : Stops = stops.stopped_by v m.stop in
      let told : Model = move (quiet (audit (event.stop v))) granted in
      let now : Model = move (quiet (signals S)) told in
      let few = stop_wakes_few v m.stop in
      let ids = stop_wakes m.stop in
      let w = woken cause.Stop ids now (omega (arith, few.all, rows_few)) in
      let h : Held all now = held_stop all told (held_digest all granted stands told.digest) S refl refl in
      bounded (moves (does (stop v) m) granted)
      (held_wakes all cause.Stop ids now (omega (arith, few.all, rows_few)) h)
      (omega (arith, calm, w, few.counted rows_few, few.completed))
      (omega (arith, w.wrote, few.all, rows_few))

  pub stopped_keeps : Bounded (moves (does stopped m) granted)
  stopped_keeps =
      let S : Stops = stops.given (caller m) m.stop in
      let told : Model = move (quiet (audit event.stopped)) granted in
      let t = given_turned (caller m) m.stop in
      bounded (moves (does stopped m) granted)
      (held_stop all told (held_digest all granted stands told.digest) S t.ids t.next)
      (omega (arith, calm, t.stays)) spare

  pub signal_keeps : Bounded (moves (does signal m) granted)
  signal_keeps = turned_keeps (stops.awaiting (caller m) m.stop) (awaiting_turned (caller m) m.stop)

  pub completed_keeps : Bounded (moves (does completed m) granted)
  completed_keeps = turned_keeps (stops.asking (caller m) m.stop) (asking_turned (caller m) m.stop)

  pub let_go_keeps : 512 ≤ free m → Bounded (moves (does let_go m) granted)
  let_go_keeps room =
      let S : Stops = stops.let_go (caller m) m.stop in
      let now : Model = move (quiet (signals S)) granted in
      let t = let_go_turned (caller m) m.stop in
      let few = let_go_wakes (caller m) m.stop in
      let as_many = sym (length-map S.roll.rows task_of) ∙ (ap length t.ids ∙ length-map m.stop.roll.rows task_of) in
      let ids = completion_wakes m.stop S in
      let w = woken cause.Stop ids now (omega (arith, few.all, as_many, rows_few)) in
      bounded (moves (does let_go m) granted)
      (held_wakes all cause.Stop ids now (omega (arith, few.all, as_many, rows_few)) (held_stop all granted stands S t.ids t.next))
      (omega (arith, calm, w, few.counted (omega (arith, as_many, rows_few)), t.stays.stopped))
      (omega (arith, w.wrote, few.all, as_many, rows_few))

-- a spawn on an aborted context spends it: one context fewer is open, and one task more was asked for
pub spending_keeps : (m : Model) → Sound m → Calm m → Spare m → (c : ℕ) → open_for (caller m) c m.tree ≡ true → Bounded (moves (spending c m) m)
spending_keeps m s calm spare c is_open =
    let next = closed_next c m.tree in
    let opens = closed_opens_held (caller m) c m.tree is_open in
    let n = s.numbered in
    bounded (moves (spending c m) m) (record {
      listed = s.listed;
      list_next = s.list_next;
      few = s.few;
      seated = λ k le. omega (arith, closed_seats k c m.tree, s.seated k le);
      numbered = omega (arith, n, next, opens);
    }) calm spare
