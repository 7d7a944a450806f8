-- The place of a new alarm among those that stand in ringing order.
use Rattle.std.proofs.Common.{◌≡◌, ℕ, zero, suc, ◌<◌, ◌≤◌, true, false, leb, List, [], ◌∷◌, ◌++◌, length, get_or, take, drop, refl, ap, arith}
use Rattle.std.specs.List.Sorted.{IsPartitionPoint}
use Rattle.std.proofs.lemmas.Bool.{and_parts}
use Rattle.alarms.specs.declared.Alarm.{Alarm}
use Rattle.alarms.specs.Order.{before, leads, ordered}
use Rattle.alarms.specs.Model.{placed}
use Rattle.alarms.proofs.Orders.{first_of, before_time}

leads_at : (a : Alarm) (bs : List Alarm) (j : ℕ) (d : Alarm) → leads a bs ≡ true → j < length bs → a.time ≤ (get_or bs j d).time
leads_at a [] j d l h = absurd (omega arith)
leads_at a (b ∷ bs) zero d l h = before_time a b (and_parts (before a b) (leads a bs) l).0
leads_at a (b ∷ bs) (suc j) d l h = leads_at a bs j d (and_parts (before a b) (leads a bs) l).1 (omega arith)

-- the times do not fall from place to place
pub times_rise : (next : ℕ) (xs : List Alarm) → ordered next xs ≡ true → (i j : ℕ) (d : Alarm) → i ≤ j → j < length xs → (get_or xs i d).time ≤ (get_or xs j d).time
times_rise next [] o i j d le h = absurd (omega arith)
times_rise next (x ∷ xs) o zero zero d le h = omega arith
times_rise next (x ∷ xs) o zero (suc j) d le h = leads_at x xs j d (first_of next x xs o).leading (omega arith)
times_rise next (x ∷ xs) o (suc i) zero d le h = absurd (omega arith)
times_rise next (x ∷ xs) o (suc i) (suc j) d le h = times_rise next xs (first_of next x xs o).rest i j d (omega arith) (omega arith)

-- behind those that are earlier or as early, and before the later ones, is the place of an alarm
pub placed_at : (a : Alarm) (xs : List Alarm) (i : ℕ) → IsPartitionPoint (λ b. leb b.time a.time ≡ true) (λ b. leb b.time a.time ≡ false) xs i → i ≤ length xs → take i xs ++ a ∷ drop i xs ≡ placed a xs
placed_at a [] zero p h = refl
placed_at a [] (suc i) p h = absurd (omega arith)
placed_at a (b ∷ bs) zero p h = rw (p.1 0 a (omega arith) (omega arith)) refl
placed_at a (b ∷ bs) (suc i) p h =
    rw (p.0 0 a (omega arith) (omega arith)) (ap (λ (l : List Alarm). b ∷ l) (placed_at a bs i (λ k d l m. p.0 (suc k) d (omega arith) (omega arith), λ k d l m. p.1 (suc k) d (omega arith) (omega arith)) (omega arith)))
