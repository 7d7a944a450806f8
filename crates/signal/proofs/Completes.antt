-- Completion through each call.
use Rattle.std.proofs.Common.{◌≡◌, ℕ, Bool, true, false, cond, not, ◌&&◌, List, ℤ, is_some, Some, None, Option, sym, refl, ap, ◌∙◌}
use Rattle.std.proofs.lemmas.Bool.{and_parts, and_from, not-true, not_from_false, both_ways}
use Rattle.roster.specs.declared.row.Row.{Row}
use Rattle.roster.specs.declared.row.Signal.TheVariants.{Closed}
use Rattle.roster.specs.Row.{takes, asks}
use Rattle.roster.specs.Model.{Roll, turned, some_open}
use Rattle.roster.proofs.Tasks.{calm_take_closed, calm_ask, some_open_calm, some_open_let_go, some_open_without, some_open_entered}
use Rattle.signal.specs.declared.Stopper.{Stopper}
use Rattle.signal.specs.Complete.{complete_with}
use Rattle.signal.specs.Model.{Stops, view, woken_by, complete, with_roll, entered, offered, given, let_go, ended, completion_wakes}
use Rattle.signal.specs.Laws.{Keeps, CompletionWakes}
use Rattle.signal.specs.Calls.{Makes, Settles}

-- rows with as many open signals: as complete as before
same_open : (v : Option ℤ) (xs ys : List Row) → some_open ys ≡ some_open xs → complete_with v ys ≡ complete_with v xs
same_open v xs ys same = ap (λ b. is_some v && not b) same

pub complete_entered : (task : ℕ) (S : Stops) → complete (entered task S) ≡ complete S
complete_entered task S = same_open S.value S.roll.rows (entered task S).roll.rows (some_open_entered task S.roll.rows)

given_complete : (v : Option ℤ) (task : ℕ) (R : Roll) → complete_with v (turned (takes (offered v)) task R).rows ≡ complete_with v R.rows
given_complete None task R = refl
given_complete (Some first) task R = same_open (Some first) R.rows (turned (takes Closed) task R).rows (some_open_calm (takes Closed) calm_take_closed task R.rows)

pub complete_given : (task : ℕ) (S : Stops) → complete (given task S) ≡ complete S
complete_given task S = given_complete S.value task S.roll

pub complete_asking : (task : ℕ) (S : Stops) → complete (with_roll (turned asks task S.roll) S) ≡ complete S
complete_asking task S = same_open S.value S.roll.rows (turned asks task S.roll).rows (some_open_calm asks calm_ask task S.roll.rows)

-- rows with fewer open signals: complete if they were
fewer_open : (v : Option ℤ) (xs ys : List Row) → (some_open xs ≡ false → some_open ys ≡ false) → complete_with v xs ≡ true → complete_with v ys ≡ true
fewer_open v xs ys fewer was =
    let p = and_parts (is_some v) (not (some_open xs)) was in
    and_from (is_some v) (not (some_open ys)) p.0 (not_from_false (some_open ys) (fewer (not-true (some_open xs) p.1)))

pub complete_let_go : (task : ℕ) (S : Stops) → complete S ≡ true → complete (let_go task S) ≡ true
complete_let_go task S = fewer_open S.value S.roll.rows (let_go task S).roll.rows (some_open_let_go task S.roll.rows)

pub complete_ended : (task : ℕ) (S : Stops) → complete S ≡ true → complete (ended task S) ≡ true
complete_ended task S = fewer_open S.value S.roll.rows (ended task S).roll.rows (some_open_without task S.roll.rows)

-- the cell of completion is sent exactly once all is complete, if it was so before
pub settled_so : (was is : Bool) (cell sent : Option (Unit {0})) → is_some cell ≡ was → (was ≡ true → is ≡ true) → sent ≡ cond is (Some tt) cell → is_some sent ≡ is
settled_so was true cell sent tied stays left = rw left refl
settled_so true false cell sent tied stays left = absurd (both_ways false refl (stays refl))
settled_so false false cell sent tied stays left = rw left tied

-- other rows, and the cell of completion: they are tied as they were, if completion is as it was
module _ (S : Stops) (R Q : Roll) (is : Q ≡ R) (cell : Option (Unit {0})) (tied : is_some cell ≡ complete S) where
  pub settled_still : complete (with_roll R S) ≡ complete S → is_some cell ≡ complete_with S.value Q.rows
  settled_still same = rw is (tied ∙ sym same)

  pub settled_anew : (sent : Option (Unit {0})) → (complete S ≡ true → complete (with_roll R S) ≡ true) → sent ≡ cond (complete_with S.value Q.rows) (Some tt) cell → is_some sent ≡ complete_with S.value Q.rows
  settled_anew sent stays left = settled_so (complete S) (complete_with S.value Q.rows) cell sent tied (rw is stays) left

-- what a call makes of the stops keeps what has come
pub keeps_given : (task : ℕ) (S : Stops) → Keeps S (given task S)
keeps_given task S = record { first_value = λ v h. h; completion = λ h. complete_given task S ∙ h }

pub keeps_let_go : (task : ℕ) (S : Stops) → Keeps S (let_go task S)
keeps_let_go task S = record { first_value = λ v h. h; completion = complete_let_go task S }

pub keeps_ended : (task : ℕ) (S : Stops) → Keeps S (ended task S)
keeps_ended task S = record { first_value = λ v h. h; completion = complete_ended task S }

module _ (next : Stops → Stops) (keeps : (S : Stops) → Keeps S (next S)) (was is : Stopper) where
  pub makes : view is ≡ next (view was) → woken_by is ≡ woken_by was → Makes next was is
  makes state woken = record { state = state; woken = woken; keeps = rw state (keeps (view was)) }

  pub settles : view is ≡ next (view was) → woken_by is ≡ completion_wakes (view was) (view is) → CompletionWakes (view was) (view is) (woken_by is) → Settles next was is
  settles state woken wakes = record { state = state; woken = woken; keeps = rw state (keeps (view was)); wakes = wakes }
