-- Ids that are queued one after another: what they load the queue with, and what they write.
use Rattle.std.proofs.Common.{◌≡◌, ℕ, ◌+◌, ◌≤◌, List, [], ◌∷◌, length, refl, arith}
use Rattle.std.proofs.lemmas.List.{length_push}
use Rattle.entry.specs.declared.Entry.TheVariants as entry
use Rattle.ledger.proofs.Books.{free_written}
use Rattle.reasons.specs.declared.cause.Cause.{Cause}
use Rattle.deterministic.specs.Model.{Model, free}
use Rattle.deterministic.specs.Moves.{wake, move, moves, wakes}
use Rattle.deterministic.specs.Bounds.{unmarked, by_stop, by_completion, by_fault}
use Rattle.bounds.proofs.Held.{Held, held_queued}

-- the ids that wait, and the tasks whose mark could still wake them
abbrev pub load : Model → ℕ
load m = length m.queues.waiting + unmarked m.registry.tasks

-- by how much more than 320 they may be
abbrev pub allowance : Model → ℕ
allowance m = by_stop m.stop + (by_completion m.stop + by_fault m.faults)

-- n follows m by this many wakes
pub record Woken (many : ℕ) (m n : Model) : Type 0 where
  pub loaded : load n ≡ load m + many
  pub allowed : allowance n ≡ allowance m
  pub wrote : free n + many ≡ free m

pub woken : (cause : Cause) (ids : List ℕ) (m : Model) → length ids ≤ free m → Woken (length ids) m (moves (wakes cause ids) m)
woken cause [] m room = record { loaded = omega arith; allowed = refl; wrote = omega arith }
woken cause (i ∷ ids) m room =
    let next : Model = move (wake i cause) m in
    let fewer = free_written (entry.Wake i cause) m.ledger (omega arith) in
    let more = length_push m.queues.waiting i in
    let rest = woken cause ids next (omega arith) in
    record { loaded = omega (arith, rest.loaded, more); allowed = rest.allowed; wrote = omega (arith, rest.wrote, fewer) }

pub held_wakes : (listing : List ℕ → List ℕ) (cause : Cause) (ids : List ℕ) (m : Model) → length ids ≤ free m → Held listing m → Held listing (moves (wakes cause ids) m)
held_wakes listing cause [] m room h = h
held_wakes listing cause (i ∷ ids) m room h =
    let next : Model = move (wake i cause) m in
    held_wakes listing cause ids next (omega (arith, free_written (entry.Wake i cause) m.ledger (omega arith))) (held_queued listing m h i (entry.Wake i cause) (omega arith))
