-- Only the next blank entry of the ledger's memory is ever written on.
use Rattle.std.proofs.Common.{◌≡◌, ℕ, zero, suc, List, [], ◌∷◌, ◌++◌, length, drop, Some, None, Option, refl, ap, ◌∙◌, arith, length-append}
use Rattle.entry.specs.declared.Entry.{Entry}
use Rattle.entry.specs.declared.Entry.TheVariants as entry
use Rattle.ledger.specs.Book.{Book, empty, rest, written}
use Rattle.alarms.specs.declared.Alarm.{Alarm}
use Rattle.alarms.specs.Laws.{due}
use Rattle.deterministic.specs.Model as model
use Rattle.deterministic.specs.Model.{Model}
use Rattle.deterministic.specs.Moves.{Move, wake, register, arm, mark, pend, leave, grow, quiet, move}
use Rattle.deterministic.specs.Run.{Finish, timed_out, end_of, ringing, rung, ticked}
use Rattle.deterministic.specs.Acts.{Act}
use Rattle.deterministic.specs.History.{Round, Close, ring_entry}
use Rattle.deterministic.specs.Went.{jumped_to}
use Rattle.laws.specs.Story as story
use Rattle.laws.specs.Story.{Did, Path, here, next, Closed, Played, Story}
use Rattle.laws.proofs.Story.{steps_path}

rest_drop : (k : ℕ) (es : List Entry) → rest (drop k es) ≡ drop (suc k) es
rest_drop zero [] = refl
rest_drop zero (e ∷ es) = refl
rest_drop (suc k) [] = refl
rest_drop (suc k) (e ∷ es) = rest_drop k es

module _ (memory : List Entry) where
  -- what is not written on is as it was
  abbrev pub Kept : Book → Type 0
  Kept b = b.blank ≡ drop (length b.log) memory

  -- writing keeps it so
  written_keeps : (e : Entry) (b : Book) → Kept b → Kept (written e b)
  written_keeps e b k =
      let longer : suc (length b.log) ≡ length (b.log ++ e ∷ []) = omega (arith, length-append b.log (e ∷ [])) in
      ap rest k ∙ rest_drop (length b.log) memory ∙ ap (λ (n : ℕ). drop n memory) longer

  -- at the start the root's registration is written
  pub started_kept : Kept (written (entry.Reg 0) (empty memory))
  started_kept = written_keeps (entry.Reg 0) (empty memory) refl

  move_keeps : (a : Move) (m : Model) → Kept m.ledger → Kept (move a m).ledger
  move_keeps (wake i c) m k = written_keeps (entry.Wake i c) m.ledger k
  move_keeps (register i label node) m k = written_keeps (entry.Reg i) m.ledger k
  move_keeps (arm a) m k = written_keeps (entry.Arm a.task a.time) m.ledger k
  move_keeps (mark i) m k = written_keeps (entry.Mark i) m.ledger k
  move_keeps (pend i) m k = k
  move_keeps (leave i h) m k = written_keeps (entry.Done i h) m.ledger k
  move_keeps (grow g) m k = k
  move_keeps (quiet q) m k = k

  act_keeps : {m n : Model} {a : Act} → Did m a n → Kept m.ledger → Kept n.ledger
  act_keeps {m} (story.moves a f) k = move_keeps a m k
  act_keeps {m} (story.polls t b ids d e) k = written_keeps (entry.Poll t.id b) m.ledger k
  act_keeps {m} (story.skips i ids d e) k = written_keeps (entry.Skip i) m.ledger k
  act_keeps (story.calls t c) k = k

  path_keeps : {m n : Model} {h : List Act} → Path m h n → Kept m.ledger → Kept n.ledger
  path_keeps here k = k
  path_keeps (next d p) k = path_keeps p (act_keeps d k)

  ringing_keeps : (l : List Alarm) (m : Model) → Kept m.ledger → Kept (ringing l m).ledger
  unfolding ringing
  ringing_keeps [] m k = k
  ringing_keeps (a ∷ l) m k = ringing_keeps l (model.queued a.task (ring_entry a) m) (written_keeps (ring_entry a) m.ledger k)

  moved_keeps : (j : Option ℕ) (m : Model) → Kept m.ledger → Kept (jumped_to j (ticked m)).ledger
  moved_keeps None m k = written_keeps (entry.Tick _) m.ledger k
  moved_keeps (Some t) m k = written_keeps (entry.Jump t) (ticked m).ledger (written_keeps (entry.Tick _) m.ledger k)

  rung_keeps : (m : Model) → Kept m.ledger → Kept (rung m).ledger
  rung_keeps m k = ringing_keeps (due m.clock.time m.alarms.alarms) _ k

  closed_keeps : {m n : Model} {c : Close} {f : Option Finish} → Closed m c n f → Kept m.ledger → Kept n.ledger
  closed_keeps (story.before f) k = k
  closed_keeps {m} (story.timeout {j = j} d z) k = moved_keeps j m k
  closed_keeps {m} (story.stalls {j = j} d z w) k = rung_keeps (jumped_to j (ticked m)) (moved_keeps j m k)
  closed_keeps {m} (story.completes {j = j} d z w) k = rung_keeps (jumped_to j (ticked m)) (moved_keeps j m k)

  played_keeps : {m : Model} {r : Round} {n : Model} {f : Option Finish} → Played m r n f → Kept m.ledger → Kept n.ledger
  played_keeps {m} {r} p k = closed_keeps p.closed (path_keeps (steps_path p.steps) (written_keeps (entry.Round (length r.drained)) m.ledger k))

  -- what no entry of a run is written on is as it was
  pub story_keeps : {m : Model} {rounds : List Round} {o : Model} {f : Finish} → Story m rounds o f → Kept m.ledger → Kept o.ledger
  story_keeps {m} story.shut k = written_keeps (entry.End (end_of timed_out)) m.ledger k
  story_keeps (story.over {n = n} {f = f} p) k = written_keeps (entry.End (end_of f)) n.ledger (played_keeps p k)
  story_keeps (story.on p s) k = story_keeps s (played_keeps p k)
