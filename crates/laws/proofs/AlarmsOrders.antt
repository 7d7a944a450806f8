-- Alarms in ringing order: what a part of them keeps, how often one stands among them, and which is first.
use Rattle.std.proofs.Common.{◌≡◌, ℕ, ◌<◌, ◌≤◌, Bool, true, not, eqb, ltb, List, [], ◌∷◌, filter, refl, ⊎_elim, arith}
use Rattle.std.proofs.lemmas.Bool.{and_parts, and_from, lt-ltb, cond_both, cases_lt}
use Rattle.alarms.specs.declared.Alarm.{Alarm}
use Rattle.alarms.specs.Order.{before, leads, unused, ordered}
use Rattle.alarms.proofs.Orders.{first_of, before_is, before_time}
use Rattle.deterministic.specs.History.{same, InOrder}
use Rattle.laws.proofs.AlarmsCounts.{one_none, number, same_serial, same_time}

module _ (test : Alarm → Bool) where
  -- a part of what an alarm leads is led by it
  leads_part : (a : Alarm) (xs : List Alarm) → leads a xs ≡ true → leads a (filter test xs) ≡ true
  leads_part a [] h = refl
  leads_part a (x ∷ xs) h =
      let p = and_parts (before a x) (leads a xs) h in
      let more = leads_part a xs p.1 in
      cond_both (test x) (x ∷ filter test xs) (filter test xs) (λ (l : List Alarm). leads a l ≡ true) (λ _. and_from (before a x) _ p.0 more) (λ _. more)

  unused_part : (serial : ℕ) (xs : List Alarm) → unused serial xs ≡ true → unused serial (filter test xs) ≡ true
  unused_part serial [] h = refl
  unused_part serial (x ∷ xs) h =
      let p = and_parts (not (eqb x.serial serial)) (unused serial xs) h in
      let more = unused_part serial xs p.1 in
      cond_both (test x) (x ∷ filter test xs) (filter test xs) (λ (l : List Alarm). unused serial l ≡ true) (λ _. and_from (not (eqb x.serial serial)) _ p.0 more) (λ _. more)

  -- a part of what is in order is in order
  pub ordered_part : (next : ℕ) (xs : List Alarm) → ordered next xs ≡ true → ordered next (filter test xs) ≡ true
  ordered_part next [] o = refl
  ordered_part next (x ∷ xs) o =
      let f = first_of next x xs o in
      let more = ordered_part next xs f.rest in
      cond_both (test x) (x ∷ filter test xs) (filter test xs) (λ (l : List Alarm). ordered next l ≡ true)
      (λ _. and_from (ltb x.serial next) _ (lt-ltb x.serial next f.low) (and_from (leads x (filter test xs)) _ (leads_part x xs f.leading) (and_from (unused x.serial (filter test xs)) _ (unused_part x.serial xs f.alone) more)))
      (λ _. more)

-- alarms in order ring in order
pub ordered_in_order : (next : ℕ) (xs : List Alarm) → ordered next xs ≡ true → InOrder xs
unfolding InOrder
ordered_in_order next [] o = tt
ordered_in_order next (x ∷ []) o = tt
ordered_in_order next (x ∷ y ∷ ys) o =
    let f = first_of next x (y ∷ ys) o in
    (before_is x y (and_parts (before x y) (leads x ys) f.leading).0, ordered_in_order next (y ∷ ys) f.rest)

-- an alarm whose serial is still to come does not stand among them
pub number_new : (next : ℕ) (a : Alarm) (xs : List Alarm) → ordered next xs ≡ true → next ≤ a.serial → number (same a) xs ≡ 0
number_new next a [] o h = refl
number_new next a (x ∷ xs) o h =
    let f = first_of next x xs o in
    omega (arith, number_new next a xs f.rest h, one_none (same a x) (λ e. omega (arith, f.low, same_serial a x e)))

number_led : (a x : Alarm) (xs : List Alarm) → a.time < x.time → leads x xs ≡ true → number (same a) xs ≡ 0
number_led a x [] h l = refl
number_led a x (y ∷ ys) h l =
    let p = and_parts (before x y) (leads x ys) l in
    let u = before_time x y p.0 in
    omega (arith, number_led a x ys h p.1, one_none (same a y) (λ e. omega (arith, same_time a y e)))

-- the first of them is the earliest
pub first_earliest : (next : ℕ) (a x : Alarm) (xs : List Alarm) → ordered next (x ∷ xs) ≡ true → 0 < number (same a) (x ∷ xs) → x.time ≤ a.time
first_earliest next a x xs o h =
    ⊎_elim
    (λ k. absurd (omega (arith, number_led a x xs k (first_of next x xs o).leading, one_none (same a x) (λ e. omega (arith, k, same_time a x e)))))
    (λ k. k)
    (cases_lt a.time x.time)
