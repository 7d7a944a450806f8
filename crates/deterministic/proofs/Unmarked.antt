-- How many tasks are not marked, after changes, a removal and one more.
use Rattle.std.proofs.Common.{◌≡◌, ℕ, ◌+◌, ◌≤◌, Bool, true, false, cond, not, List, [], ◌∷◌, ◌++◌, length, Some, Option, sym, refl, ap, ◌∙◌, arith}
use Rattle.keyed.specs.Keyed.{find, change, without}
use Rattle.keyed.specs.Choices.{given}
use Rattle.deterministic.specs.Model.{Task, id_of, marked, pended, new_task}
use Rattle.deterministic.specs.Bounds.{unmarked}
use Rattle.deterministic.proofs.Countings.{counted, Ends, ends_gains_none, counted_most, counted_push, counted_change, counted_change_same, counted_without, counted_ended}

-- the task is not marked
abbrev runs : Task → Bool
runs t = not t.marked

-- they are counted by that test
unmarked_counted : (ts : List Task) → unmarked ts ≡ counted runs ts
unfolding unmarked counted
unmarked_counted [] = refl
unmarked_counted (t ∷ ts) =
    let rest = unmarked_counted ts in
    elim t.marked as (λ b. cond b 0 1 + unmarked ts ≡ cond (not b) 1 0 + counted runs ts) [ true ↦ omega arith | false ↦ omega arith ]

-- no more tasks are unmarked than there are
pub unmarked_length : (ts : List Task) → unmarked ts ≤ length ts
unmarked_length ts = omega (arith, unmarked_counted ts, counted_most runs ts)

pub unmarked_push : (ts : List Task) (i : ℕ) (label : List ℕ) (at : Option ℕ) → unmarked (ts ++ new_task i label at ∷ []) ≡ unmarked ts + 1
unmarked_push ts i label at =
    let new = new_task i label at in
    omega (arith, unmarked_counted ts, unmarked_counted (ts ++ new ∷ []), counted_push runs ts new)

pub unmarked_pended : (i : ℕ) (ts : List Task) → unmarked (change id_of pended i ts) ≡ unmarked ts
unmarked_pended i ts = unmarked_counted (change id_of pended i ts) ∙ counted_change_same runs id_of pended (λ _. refl) i ts ∙ sym (unmarked_counted ts)

pub unmarked_without : (i : ℕ) (ts : List Task) → unmarked (without id_of i ts) ≤ unmarked ts
unmarked_without i ts = omega (arith, unmarked_counted ts, unmarked_counted (without id_of i ts), counted_without runs id_of i ts)

-- a mark leaves no more of them
pub unmarked_change : (i : ℕ) (ts : List Task) → unmarked (change id_of marked i ts) ≤ unmarked ts
unmarked_change i ts =
    let marks : Ends runs marked = λ _. refl in
    omega (arith, unmarked_counted ts, unmarked_counted (change id_of marked i ts), counted_change runs id_of marked (ends_gains_none runs marked marks) i ts)

-- a task that was not marked and is makes one fewer
pub unmarked_one_fewer : (i : ℕ) (ts : List Task) (t : Task) → find id_of i ts ≡ Some t → t.marked ≡ false → unmarked (change id_of marked i ts) + 1 ≤ unmarked ts
unmarked_one_fewer i ts t found new =
    let ran = ap (λ (o : Option Task). given o false runs) found ∙ ap not new in
    omega (arith, unmarked_counted ts, unmarked_counted (change id_of marked i ts), counted_ended runs id_of marked (λ _. refl) i ts ran)
