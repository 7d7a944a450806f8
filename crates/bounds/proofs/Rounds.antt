-- The steps of a round keep the bounds, and a run starts within them.
use Rattle.std.proofs.Common.{ℕ, ◌<◌, ◌≤◌, Bool, true, false, cond, eqb, List, [], ◌∷◌, length, Some, None, refl, arith}
use Rattle.std.proofs.lemmas.List.{length_push}
use Rattle.entry.specs.declared.Entry.TheVariants as entry
use Rattle.reasons.specs.declared.ending.Ending.TheVariants as ending
use Rattle.ledger.proofs.Books.{free_written}
use Rattle.deterministic.specs.declared.outcome.Outcome.{Outcome}
use Rattle.deterministic.specs.declared.outcome.Outcome.TheVariants as outcome
use Rattle.deterministic.specs.Model.{Task, Model, with_queues, free, pended}
use Rattle.deterministic.specs.Moves.{move, moves, pend, after_doing}
use Rattle.deterministic.specs.Calls.{Call, after, apply}
use Rattle.deterministic.specs.Ending.{ending_of, is_marked, settling, settling_root}
use Rattle.deterministic.specs.Run.{opened, still_drained, skipped, polled, called, settle}
use Rattle.deterministic.specs.Bounds.{Sound, Calm}
use Rattle.bounds.specs.Kept.{Steady, Bounded, Ended, StepsKeep}
use Rattle.deterministic.proofs.Unmarked.{unmarked_length, unmarked_pended}
use Rattle.bounds.proofs.Held.{all, held, sound, held_noted, held_queues, held_changed}
use Rattle.bounds.proofs.Calls.{call_keeps}
use Rattle.bounds.proofs.Ends.{end_keeps}

-- calls one after another keep the bounds
pub turn_keeps : (cs : List Call) (m : Model) → Bounded m → Bounded (apply cs m)
turn_keeps [] m b = b
turn_keeps (c ∷ cs) m b = turn_keeps cs (after c m) (call_keeps m b.sound b.calm b.spare c)

module _ (m : Model) (s : Sound m) where
  pub opened_steady : (ids : List ℕ) → 0 < free m → Steady (opened ids m)
  opened_steady ids room =
      let drained : Model = with_queues (record { waiting = []; drained = ids }) m in
      let few = unmarked_length m.registry.tasks in
      record {
        sound = sound (opened ids m) (held_noted all drained (held_queues all m (held m s) drained.queues) (entry.Round (length ids)) room);
        calm = omega (arith, s.few);
      }

  pub skipped_steady : (i : ℕ) (ids : List ℕ) → Calm m → 0 < free m → Steady (skipped i ids m)
  skipped_steady i ids calm room =
      let drained : Model = still_drained ids m in
      record { sound = sound (skipped i ids m) (held_noted all drained (held_queues all m (held m s) drained.queues) (entry.Skip i) room); calm = calm }

  pub polled_sound : (t : Task) (calls : Bool) (ids : List ℕ) → 0 < free m → Sound (polled t calls ids m)
  polled_sound t calls ids room =
      let n = s.numbered in
      let fewer = free_written (entry.Poll t.id calls) m.ledger room in
      let longer = length_push m.ledger.log (entry.Poll t.id calls) in
      record { listed = s.listed; list_next = s.list_next; few = s.few; seated = s.seated; numbered = omega (arith, n, fewer, longer) }

  -- all calls that were granted in the poll before have their room in the count of polls
  pub called_sound : (t : Task) (calls : Bool) (ids : List ℕ) → 0 < free m → Sound (called t.id (polled t calls ids m))
  called_sound t calls ids room =
      let n = s.numbered in
      let fewer = free_written (entry.Poll t.id calls) m.ledger room in
      let longer = length_push m.ledger.log (entry.Poll t.id calls) in
      record { listed = s.listed; list_next = s.list_next; few = s.few; seated = s.seated; numbered = omega (arith, n, fewer, longer) }

  pub called_bounded : (t : Task) (calls : Bool) (ids : List ℕ) → Calm m → 512 ≤ free m → Bounded (called t.id (polled t calls ids m))
  called_bounded t calls ids calm room = record {
    sound = called_sound t calls ids (omega arith);
    calm = calm;
    spare = omega (arith, free_written (entry.Poll t.id calls) m.ledger (omega arith));
  }

  pub pends_steady : (i : ℕ) → Calm m → Steady (move (pend i) m)
  pends_steady i calm = record {
    sound = sound (move (pend i) m) (held_changed all m (held m s) pended (λ _. refl) i);
    calm = omega (arith, calm, unmarked_pended i m.registry.tasks);
  }

  pub steps_keep : StepsKeep m
  steps_keep = record {
    opens = opened_steady;
    skips = skipped_steady;
    polls = λ t calls ids calm room. record { sound = polled_sound t calls ids room; calm = calm };
    begins = λ t calls ids calm room. record { sound = called_sound t calls ids room; calm = calm };
    begins_spare = called_bounded;
    pends = pends_steady;
  }

-- nothing has happened
unended : (m : Model) → Sound m → Calm m → Ended m m
unended m s calm = record { sound = s; calm = calm; wrote = omega arith }

pended_keeps : (i : ℕ) (m : Model) → Sound m → Calm m → Ended m (move (pend i) m)
pended_keeps i m s calm =
    let p = pends_steady m s i calm in
    record { sound = p.sound; calm = p.calm; wrote = omega arith }

-- what follows a body's calls keeps the bounds
pub outcome_keeps : (i : ℕ) (o : Outcome) (m : Model) → Sound m → Calm m → 194 ≤ free m → Ended m (after_doing (settle i o) m)
outcome_keeps i o m s calm room = go (eqb i 0) o where
  pending_keeps : (b : Bool) → Ended m (moves (cond b (ending_of i ending.Aborted None m) (pend i ∷ [])) m)
  pending_keeps true = end_keeps i ending.Aborted None m s calm room
  pending_keeps false = pended_keeps i m s calm

  go : (b : Bool) (o : Outcome) → Ended m (moves (cond b (settling_root o m) (settling i o m)) m)
  go true outcome.Pending = pended_keeps 0 m s calm
  go true (outcome.Done value) = unended m s calm
  go true (outcome.Fault code) = unended m s calm
  go false outcome.Pending = pending_keeps (is_marked i m)
  go false (outcome.Done value) = end_keeps i ending.Returned None m s calm room
  go false (outcome.Fault code) = end_keeps i ending.Faulted (Some code) m s calm room
