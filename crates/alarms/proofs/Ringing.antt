-- What rings and what stays, of alarms in ringing order.
use Rattle.std.proofs.Common.{◌≡◌, ℕ, ◌<◌, ◌≤◌, true, leb, List, [], ◌∷◌, ◌++◌, is_some, Option, unwrap_or, sym, refl, ap, ◌∙◌, inl, ⊎_elim, arith}
use mathlib.Core.Bool.{false≢true}
use Rattle.std.specs.List.{AllByRecursion}
use Rattle.std.proofs.lemmas.Bool.{and_parts, lt-leb, leb-true, leb-false, cases_Bool}
use Rattle.alarms.specs.declared.Alarm.{Alarm}
use Rattle.alarms.specs.Order.{before, leads, ordered}
use Rattle.alarms.specs.Model.{earliest, first_due, without_first_due}
use Rattle.alarms.specs.Laws.{due, later, Rings, RungOut, WholeRinging, Earliest}
use Rattle.alarms.proofs.Orders.{first_of, leads_all, before_time}

-- alarms led by one that is not due are not due
later_led : (clock : ℕ) (a : Alarm) (bs : List Alarm) → clock < a.time → leads a bs ≡ true → (due clock bs ≡ []) × (later clock bs ≡ bs)
later_led clock a [] h l = (refl, refl)
later_led clock a (b ∷ bs) h l =
    let p = and_parts (before a b) (leads a bs) l in
    let u = before_time a b p.0 in
    let q = later_led clock a bs h p.1 in
    let late = lt-leb b.time clock (omega arith) in
    (rw late q.0, rw late (ap (λ (m : List Alarm). b ∷ m) q.1))

rings_at : (clock next : ℕ) (xs : List Alarm) → ordered next xs ≡ true → Rings clock xs (without_first_due clock xs) (first_due clock xs)
rings_at clock next [] o = record { none_due = refl; all_later = refl; stays = refl }
rings_at clock next (a ∷ more) o =
    let f = first_of next a more o in
    ⊎_elim
    (λ reached. rw reached (record { reached = leb-true a.time clock reached; stood = refl; due_rest = rw reached refl; later_rest = rw reached refl; first = leads_all a more f.leading }))
    (λ late.
    let q = later_led clock a more (leb-false a.time clock late) f.leading in
    rw late (record { none_due = rw late q.0; all_later = rw late (ap (λ (m : List Alarm). a ∷ m) q.1); stays = refl }))
    (cases_Bool (leb a.time clock))

-- the same of what a ring left and answered
pub rings_so : (clock next : ℕ) (xs ys : List Alarm) (r : Option Alarm) → ordered next xs ≡ true → ys ≡ without_first_due clock xs → r ≡ first_due clock xs → Rings clock xs ys r
rings_so clock next xs ys r o left answer = rw (left, answer) (rings_at clock next xs o)

-- a whole ringing of alarms in ringing order
rung_out_due : (clock next : ℕ) (xs : List Alarm) → ordered next xs ≡ true → RungOut clock (due clock xs) xs (later clock xs)
rung_out_due clock next [] o = (refl, refl)
rung_out_due clock next (a ∷ more) o =
    let f = first_of next a more o in
    ⊎_elim
    (λ reached. rw reached (rw reached refl, rw reached (rung_out_due clock next more f.rest)))
    (λ late.
    let q = later_led clock a more (leb-false a.time clock late) f.leading in
    rw late (rw (q.0, q.1) (rw late refl, refl)))
    (cases_Bool (leb a.time clock))

due_in_front : (clock next : ℕ) (xs : List Alarm) → ordered next xs ≡ true → due clock xs ++ later clock xs ≡ xs
due_in_front clock next [] o = refl
due_in_front clock next (a ∷ more) o =
    let f = first_of next a more o in
    ⊎_elim
    (λ reached. rw reached (ap (λ (m : List Alarm). a ∷ m) (due_in_front clock next more f.rest)))
    (λ late.
    let q = later_led clock a more (leb-false a.time clock late) f.leading in
    rw late (rw (q.0, q.1) refl))
    (cases_Bool (leb a.time clock))

-- rings that end, end in one way
one_way : (clock : ℕ) (rang chimed xs rest left : List Alarm) → RungOut clock rang xs rest → RungOut clock chimed xs left → (rang ≡ chimed) × (rest ≡ left)
one_way clock [] [] xs rest left p q = (refl, p.1 ∙ sym q.1)
one_way clock [] (b ∷ bs) xs rest left p q = absurd (false≢true (ap is_some (sym p.0 ∙ q.0)))
one_way clock (a ∷ as') [] xs rest left p q = absurd (false≢true (ap is_some (sym q.0 ∙ p.0)))
one_way clock (a ∷ as') (b ∷ bs) xs rest left p q =
    let same : a ≡ b = ap (λ (o : Option Alarm). unwrap_or o a) (sym p.0 ∙ q.0) in
    let more = one_way clock as' bs (without_first_due clock xs) rest left p.1 q.1 in
    (rw (same, more.0) refl, more.1)

pub whole_ringing : (clock next : ℕ) (xs : List Alarm) → ordered next xs ≡ true → WholeRinging clock xs
whole_ringing clock next xs o = record {
  ends = rung_out_due clock next xs o;
  only = λ rang rest rung. one_way clock rang (due clock xs) xs rest (later clock xs) rung (rung_out_due clock next xs o);
  in_front = due_in_front clock next xs o;
}

all_from : (a : Alarm) (bs : List Alarm) → leads a bs ≡ true → AllByRecursion (λ b. a.time ≤ b.time) bs
all_from a [] l = tt
all_from a (b ∷ bs) l = let p = and_parts (before a b) (leads a bs) l in (before_time a b p.0, all_from a bs p.1)

earliest_at : (next : ℕ) (xs : List Alarm) → ordered next xs ≡ true → Earliest xs (earliest xs)
earliest_at next [] o = refl
earliest_at next (a ∷ more) o =
    let f = first_of next a more o in
    record { alarm = a; stands = inl refl; at = refl; least = (omega arith, all_from a more f.leading) }

pub earliest_so : (next : ℕ) (xs : List Alarm) (r : Option ℕ) → ordered next xs ≡ true → r ≡ earliest xs → Earliest xs r
earliest_so next xs r o answer = rw answer (earliest_at next xs o)
