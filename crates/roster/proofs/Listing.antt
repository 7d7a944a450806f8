-- The tasks of the rows that pass a test, listed row by row.
use Rattle.std.proofs.Common.{◌≡◌, ℕ, suc, ◌+◌, ◌<◌, ◌≤◌, Bool, true, false, cond, List, [], ◌∷◌, ◌++◌, map, length, get_or, take, filter, sym, refl, ap, ◌∙◌, arith}
use Rattle.std.specs.List.{AllByRecursion}
use Rattle.std.proofs.ByRecursion.{All-weaker}
use Rattle.std.proofs.lemmas.Bool.{and_parts, and_from, leb-true}
use Rattle.std.proofs.lemmas.List.{map-append, take_more, take_all, append-nil, length-append}
use Rattle.std.proofs.lemmas.List.Elements.{filter-append}
use Rattle.keyed.specs.Keyed.{ordered}
use Rattle.keyed.proofs.Orders.{ordered_first, ordered_higher, ordered_push_above}
use Rattle.roster.specs.declared.row.Row.{Row}
use Rattle.roster.specs.Row.{task_of}
use Rattle.roster.specs.Model.{called, Ascending}
use Rattle.reserved.specs.Closures.{Computes}

-- ids are the tasks of the first i rows that pass, whatever test the closure computes, and they rise as the rows do
pub record Listed (gives : Row → Bool → Type 0) (rows : List Row) (i : ℕ) (ids : List ℕ) : Type 0 where
  pub few : length ids ≤ i
  pub items : (test : Row → Bool) → Computes gives test → ids ≡ called test (take i rows)
  pub rises : (hi : ℕ) → ordered task_of 0 hi (take i rows) ≡ true → ordered (λ k. k) 0 hi ids ≡ true

called_one : (test : Row → Bool) (x : Row) (b : Bool) → b ≡ test x → called test (x ∷ []) ≡ cond b (x.task ∷ []) []
called_one test x true e = rw (← e) refl
called_one test x false e = rw (← e) refl

called_push : (test : Row → Bool) (xs : List Row) (x : Row) (b : Bool) → b ≡ test x → called test (xs ++ x ∷ []) ≡ called test xs ++ cond b (x.task ∷ []) []
called_push test xs x b e =
    ap (map task_of) (filter-append test xs (x ∷ []))
    ∙ (map-append task_of (filter test xs) (filter test (x ∷ []))
    ∙ ap (λ (l : List ℕ). called test xs ++ l) (called_one test x b e))

-- what an order says of its last element
ordered_last : (lo hi : ℕ) (xs : List Row) (x : Row) → ordered task_of lo hi (xs ++ x ∷ []) ≡ true → (ordered task_of lo x.task xs ≡ true) × (x.task < hi)
ordered_last lo hi [] x o =
    let p = and_parts _ _ o in
    (p.0, leb-true (suc x.task) hi p.1)
ordered_last lo hi (y ∷ ys) x o =
    let p = and_parts _ _ o in
    let q = ordered_last (suc y.task) hi ys x p.1 in
    (and_from _ _ p.0 q.0, q.1)

module _ {gives : Row → Bool → Type 0} (rows : List Row) where
  pub listed_none : (ids : List ℕ) → ids ≡ [] → Listed gives rows 0 ids
  listed_none ids none = rw none record { few = omega arith; items = λ test computes. refl; rises = λ hi o. o }

  -- one row more
  module _ (i : ℕ) (d : Row) (within : i < length rows) (ids : List ℕ) (so_far : Listed gives rows i ids) where
    abbrev row : Row
    row = get_or rows i d

    more : (test : Row → Bool) (b : Bool) → b ≡ test row → called test (take (i + 1) rows) ≡ called test (take i rows) ++ cond b (row.task ∷ []) []
    more test b e = ap (called test) (take_more rows i d within) ∙ called_push test (take i rows) row b e

    last : (hi : ℕ) → ordered task_of 0 hi (take (i + 1) rows) ≡ true → (ordered task_of 0 row.task (take i rows) ≡ true) × (row.task < hi)
    last hi o = ordered_last 0 hi (take i rows) row (rw (take_more rows i d within) at o)

    pub listed_more : (passes : Bool) → gives row passes → (longer : List ℕ) → longer ≡ cond passes (ids ++ task_of row ∷ []) ids → Listed gives rows (i + 1) longer
    listed_more true gave longer is = rw is record {
      few = omega (arith, length-append ids (row.task ∷ []), so_far.few);
      items = λ test computes. ap (λ (l : List ℕ). l ++ row.task ∷ []) (so_far.items test computes) ∙ sym (more test true (computes row true gave));
      rises = λ hi o. (let p = last hi o in ordered_push_above (λ k. k) 0 row.task hi ids row.task (so_far.rises _ p.0) (omega arith) p.1);
    }
    listed_more false gave longer is = rw is record {
      few = omega (arith, so_far.few);
      items = λ test computes. so_far.items test computes ∙ sym (more test false (computes row false gave) ∙ append-nil _);
      rises = λ hi o. (let p = last hi o in ordered_higher (λ k. k) 0 row.task hi ids (omega (arith, p.1)) (so_far.rises _ p.0));
    }

  pub listed_all : (i : ℕ) (ids : List ℕ) → Listed gives rows i ids → length rows ≤ i → (test : Row → Bool) → Computes gives test → ids ≡ called test rows
  listed_all i ids all past test computes = all.items test computes ∙ ap (called test) (take_all i rows past)

-- numbers that rise ascend
ascending_from : (lo hi : ℕ) (ks : List ℕ) → ordered (λ k. k) lo hi ks ≡ true → AllByRecursion (λ k. lo ≤ k) ks × Ascending ks
ascending_from lo hi [] o = (tt, tt)
ascending_from lo hi (k ∷ ks) o =
    let p = ordered_first (λ k. k) lo hi k ks o in
    let rest = ascending_from (suc k) hi ks p.1 in
    ((p.0, All-weaker (λ j. suc k ≤ j) (λ j. lo ≤ j) (λ j h. omega (arith, p.0)) ks rest.0), (All-weaker (λ j. suc k ≤ j) (λ j. k < j) (λ j h. omega arith) ks rest.0, rest.1))

pub listed_ascending : {gives : Row → Bool → Type 0} (rows : List Row) (i hi : ℕ) (ids : List ℕ) → Listed gives rows i ids → length rows ≤ i → ordered task_of 0 hi rows ≡ true → Ascending ids
listed_ascending rows i hi ids all past o = (ascending_from 0 hi ids (all.rises hi (rw (take_all i rows past) o))).1
