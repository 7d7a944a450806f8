-- Which tasks have a row, how many are called, and whether an open signal is held, after each call.
use Rattle.std.proofs.Common.{◌≡◌, ℕ, suc, ◌≤◌, Bool, true, false, cond, ◌||◌, eqb, List, [], ◌∷◌, ◌++◌, map, length, filter, refl, ap, arith}
use Rattle.std.proofs.lemmas.List.{map_push}
use Rattle.std.proofs.lemmas.Bool.{or_parts}
use Rattle.keyed.specs.Keyed.{change, without}
use Rattle.roster.specs.declared.row.Row.{Row}
use Rattle.roster.specs.declared.row.Signal.{Signal}
use Rattle.roster.specs.declared.row.Signal.TheVariants.{Absent, Open, Awaited, Closed}
use Rattle.roster.specs.Row.{task_of, fresh, taken, awaited, takes, awaits, lets_go, asks, open_signal, is_open}
use Rattle.roster.specs.Model.{Roll, entered, turned, departed, some_open, called}
use Rattle.roster.specs.Closures.{KeepsTask}

-- the tasks that have a row
abbrev pub tasks : Roll → List ℕ
tasks R = map task_of R.rows

pub tasks_entered : (task : ℕ) (R : Roll) → tasks (entered task R) ≡ tasks R ++ task ∷ []
tasks_entered task R = map_push task_of R.rows (fresh task)

-- a step that leaves each row its task
module _ (step : Row → Row) (keeps : KeepsTask step) where
  tasks_change : (task : ℕ) (xs : List Row) → map task_of (change task_of step task xs) ≡ map task_of xs
  tasks_change task [] = refl
  tasks_change task (x ∷ xs) =
      let rest = tasks_change task xs in
      elim (eqb x.task task) as (λ b. task_of (cond b (step x) x) ∷ map task_of (change task_of step task xs) ≡ x.task ∷ map task_of xs) [
        | true ↦ rw (keeps x, rest) refl
        | false ↦ ap (λ (l : List ℕ). x.task ∷ l) rest
      ]

  pub tasks_turned : (task : ℕ) (R : Roll) → tasks (turned step task R) ≡ tasks R
  tasks_turned task R = tasks_change task R.rows

tasks_without : (task : ℕ) (xs : List Row) → map task_of (without task_of task xs) ≡ without (λ k. k) task (map task_of xs)
tasks_without task [] = refl
tasks_without task (x ∷ xs) =
    let rest = tasks_without task xs in
    elim (eqb x.task task) as (λ b. map task_of (cond b (without task_of task xs) (x ∷ without task_of task xs)) ≡ cond b (without (λ k. k) task (map task_of xs)) (x.task ∷ without (λ k. k) task (map task_of xs))) [
      | true ↦ rest
      | false ↦ ap (λ (l : List ℕ). x.task ∷ l) rest
    ]

pub tasks_departed : (task : ℕ) (R : Roll) → tasks (departed task R) ≡ without (λ k. k) task (tasks R)
tasks_departed task R = tasks_without task R.rows

-- no more are called than have a row
pub length_called : (test : Row → Bool) (xs : List Row) → length (called test xs) ≤ length xs
length_called test [] = omega arith
length_called test (x ∷ xs) =
    let rest = length_called test xs in
    elim (test x) as (λ b. length (map task_of (cond b (x ∷ filter test xs) (filter test xs))) ≤ suc (length xs)) [ true ↦ omega arith | false ↦ omega arith ]

-- a step that opens and closes nothing at any row
abbrev pub Calm : (Row → Row) → Type 0
Calm step = (x : Row) → is_open (step x) ≡ is_open x

taken_open : (s : Signal) → open_signal (taken Closed s) ≡ open_signal s
taken_open Absent = refl
taken_open Open = refl
taken_open Awaited = refl
taken_open Closed = refl

awaited_open : (s : Signal) → open_signal (awaited s) ≡ open_signal s
awaited_open Absent = refl
awaited_open Open = refl
awaited_open Awaited = refl
awaited_open Closed = refl

pub calm_take_closed : Calm (takes Closed)
calm_take_closed x = taken_open x.signal

pub calm_await : Calm awaits
calm_await x = awaited_open x.signal

pub calm_ask : Calm asks
calm_ask x = refl

pub some_open_calm : (step : Row → Row) → Calm step → (task : ℕ) (xs : List Row) → some_open (change task_of step task xs) ≡ some_open xs
some_open_calm step calm task [] = refl
some_open_calm step calm task (x ∷ xs) =
    let rest = some_open_calm step calm task xs in
    elim (eqb x.task task) as (λ b. (is_open (cond b (step x) x) || some_open (change task_of step task xs)) ≡ (is_open x || some_open xs)) [
      | true ↦ rw (calm x, rest) refl
      | false ↦ rw rest refl
    ]

-- what lets go opens nothing
pub some_open_let_go : (task : ℕ) (xs : List Row) → some_open xs ≡ false → some_open (change task_of lets_go task xs) ≡ false
some_open_let_go task [] none = refl
some_open_let_go task (x ∷ xs) none =
    let p = or_parts (is_open x) (some_open xs) none in
    let rest = some_open_let_go task xs p.1 in
    elim (eqb x.task task) as (λ b. (is_open (cond b (lets_go x) x) || some_open (change task_of lets_go task xs)) ≡ false) [
      | true ↦ rest
      | false ↦ rw p.0 rest
    ]

pub some_open_without : (task : ℕ) (xs : List Row) → some_open xs ≡ false → some_open (without task_of task xs) ≡ false
some_open_without task [] none = refl
some_open_without task (x ∷ xs) none =
    let p = or_parts (is_open x) (some_open xs) none in
    let rest = some_open_without task xs p.1 in
    elim (eqb x.task task) as (λ b. some_open (cond b (without task_of task xs) (x ∷ without task_of task xs)) ≡ false) [
      | true ↦ rest
      | false ↦ rw p.0 rest
    ]

-- a new row holds no signal
pub some_open_entered : (task : ℕ) (xs : List Row) → some_open (xs ++ fresh task ∷ []) ≡ some_open xs
some_open_entered task [] = refl
some_open_entered task (x ∷ xs) = ap (λ b. is_open x || b) (some_open_entered task xs)
