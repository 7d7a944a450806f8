-- What moves leave: the drained ids stay drained, and the free entries of the ledger never grow more.
use Rattle.std.proofs.Common.{◌≡◌, ℕ, ◌<◌, ◌≤◌, List, [], ◌∷◌, length, Some, None, Option, refl, ◌∙◌, arith}
use Rattle.entry.specs.declared.Entry.{Entry}
use Rattle.alarms.specs.declared.Alarm.{Alarm}
use Rattle.alarms.specs.Laws.{due, later}
use Rattle.entry.specs.declared.Entry.TheVariants as entry
use Rattle.keyed.specs.Choices.{given}
use Rattle.ledger.specs.Book.{rest}
use Rattle.ledger.proofs.Books.{free_written}
use Rattle.deterministic.specs.Model.{Model, free, queued, with_alarms}
use Rattle.deterministic.specs.Moves.{Move, wake, register, arm, mark, pend, leave, grow, quiet, move, moves}
use Rattle.deterministic.specs.Calls.{Call, doings, after, apply}
use Rattle.deterministic.specs.Run.{opened, ringing, standing, rung, leapt, leapt_to, jump}

length_rest : (es : List Entry) → length (rest es) ≤ length es
length_rest [] = omega arith
length_rest (e ∷ es) = omega arith

pub moves_drained : (l : List Move) (m : Model) → (moves l m).queues.drained ≡ m.queues.drained
moves_drained [] m = refl
moves_drained (wake i c ∷ l) m = moves_drained l (move (wake i c) m)
moves_drained (register i b n ∷ l) m = moves_drained l (move (register i b n) m)
moves_drained (arm a ∷ l) m = moves_drained l (move (arm a) m)
moves_drained (mark i ∷ l) m = moves_drained l (move (mark i) m)
moves_drained (pend i ∷ l) m = moves_drained l (move (pend i) m)
moves_drained (leave i h ∷ l) m = moves_drained l (move (leave i h) m)
moves_drained (grow g ∷ l) m = moves_drained l (move (grow g) m)
moves_drained (quiet q ∷ l) m = moves_drained l (move (quiet q) m)

pub apply_drained : (cs : List Call) (m : Model) → (apply cs m).queues.drained ≡ m.queues.drained
apply_drained [] m = refl
apply_drained (c ∷ cs) m = apply_drained cs (after c m) ∙ moves_drained (doings c m) m

move_free : (a : Move) (m : Model) → free (move a m) ≤ free m
move_free (wake i c) m = length_rest m.ledger.blank
move_free (register i b n) m = length_rest m.ledger.blank
move_free (arm a) m = length_rest m.ledger.blank
move_free (mark i) m = length_rest m.ledger.blank
move_free (pend i) m = omega arith
move_free (leave i h) m = length_rest m.ledger.blank
move_free (grow g) m = omega arith
move_free (quiet q) m = omega arith

pub moves_free : (l : List Move) (m : Model) → free (moves l m) ≤ free m
moves_free [] m = omega arith
moves_free (a ∷ l) m = omega (arith, move_free a m, moves_free l (move a m))

pub apply_free : (cs : List Call) (m : Model) → free (apply cs m) ≤ free m
apply_free [] m = omega arith
apply_free (c ∷ cs) m = omega (arith, moves_free (doings c m) m, apply_free cs (after c m))

pub written_free : (m : Model) → length (rest m.ledger.blank) ≤ free m
written_free m = length_rest m.ledger.blank

-- a round's draining is written, if an entry is free
pub opened_free : (ids : List ℕ) (m : Model) → 0 < free (opened ids m) → free (opened ids m) < free m
opened_free ids m h = omega (arith, free_written (entry.Round (length ids)) m.ledger (omega (arith, length_rest m.ledger.blank)))

pub leapt_free : (m : Model) → free (leapt m) ≤ free m
leapt_free m = go (jump m) where
  go : (o : Option ℕ) → free (given o m (λ t. leapt_to t m)) ≤ free m
  go None = omega arith
  go (Some t) = length_rest m.ledger.blank

ringing_free : (l : List Alarm) (m : Model) → free (ringing l m) ≤ free m
unfolding ringing
ringing_free [] m = omega arith
ringing_free (a ∷ l) m = omega (arith, length_rest m.ledger.blank, ringing_free l (queued a.task (entry.Ring a.task a.time) m))

pub rung_free : (m : Model) → free (rung m) ≤ free m
rung_free m =
    let now = m.clock.time in
    ringing_free (due now m.alarms.alarms) (with_alarms (standing (later now m.alarms.alarms) m.alarms) m)
