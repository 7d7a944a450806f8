-- The stop signal through its calls: whom it lists, and that a stop and its completion stay.
use Rattle.std.proofs.Common.{◌≡◌, ℕ, ◌+◌, ◌≤◌, Bool, true, false, cond, not, ◌&&◌, [], map, length, ℤ, is_some, Some, None, Option, refl, ap, arith}
use Rattle.std.proofs.lemmas.Bool.{cond_both, false≢true}
use Rattle.keyed.specs.Choices.{whether}
use Rattle.oneshot.specs.Cell.{sent}
use Rattle.roster.specs.Row.{task_of, takes, awaits, lets_go, asks, is_waiting, has_asked}
use Rattle.roster.specs.Model.{holder, turned, some_open, called}
use Rattle.roster.proofs.Tasks.{tasks_turned, length_called, calm_await, some_open_calm}
use Rattle.signal.specs.Model.{Stops, has_stopped, complete, with_roll, offered, given, awaiting, asking, let_go, ended, stopped_by, stop_wakes, comes, completion_wakes}
use Rattle.signal.proofs.Completes.{complete_given, complete_asking, complete_let_go, complete_ended}
use Rattle.deterministic.proofs.Choices.{whether_by}
use Rattle.deterministic.specs.Bounds.{by_stop, by_completion}

-- a stop and its completion stay
pub record Stays (S T : Stops) : Type 0 where
  pub stopped : by_stop S ≤ by_stop T
  pub completed : by_completion S ≤ by_completion T

-- and the list has the same ids
pub record Turned (S T : Stops) : Type 0 where
  pub ids : map task_of T.roll.rows ≡ map task_of S.roll.rows
  pub next : T.roll.next ≡ S.roll.next
  pub stays : Stays S T

cond_stays : (a b : Bool) (n : ℕ) → (a ≡ true → b ≡ true) → cond a n 0 ≤ cond b n 0
cond_stays false b n h = omega arith
cond_stays true b n h = rw (h refl) (omega arith)

cond_same : (a b : Bool) (n : ℕ) → b ≡ a → cond a n 0 ≤ cond b n 0
cond_same a b n h = rw h (omega arith)

same : (S : Stops) → Turned S S
same S = record { ids = refl; next = refl; stays = record { stopped = omega arith; completed = omega arith } }

pub given_turned : (task : ℕ) (S : Stops) → Turned S (given task S)
given_turned task S = record {
  ids = tasks_turned (takes (offered S.value)) (λ r. refl) task S.roll;
  next = refl;
  stays = record {
    stopped = omega arith;
    completed = cond_same (complete S) (complete (given task S)) 64 (complete_given task S);
  };
}

pub awaiting_turned : (task : ℕ) (S : Stops) → Turned S (awaiting task S)
awaiting_turned task S =
    let waits : Stops = with_roll (turned awaits task S.roll) S in
    cond_both (holder task S.roll.rows) _ _ (Turned S)
    (λ _. whether_by S.value (Turned S) _ _
    (λ _. record {
      ids = tasks_turned awaits (λ r. refl) task S.roll;
      next = refl;
      stays = record {
        stopped = omega arith;
        completed = cond_same (complete S) (complete waits) 64 (ap (λ b. is_some S.value && not b) (some_open_calm awaits calm_await task S.roll.rows));
      };
    })
    (λ _ _. same S))
    (λ _. same S)

pub asking_turned : (task : ℕ) (S : Stops) → Turned S (asking task S)
asking_turned task S =
    let asking_too : Stops = with_roll (turned asks task S.roll) S in
    cond_both (has_stopped S) _ _ (Turned S)
    (λ _. cond_both (complete S) _ _ (Turned S) (λ _. same S)
    (λ _. record {
      ids = tasks_turned asks (λ r. refl) task S.roll;
      next = refl;
      stays = record { stopped = omega arith; completed = cond_same (complete S) (complete asking_too) 64 (complete_asking task S) };
    }))
    (λ _. same S)

pub let_go_turned : (task : ℕ) (S : Stops) → Turned S (let_go task S)
let_go_turned task S = record {
  ids = tasks_turned lets_go (λ r. refl) task S.roll;
  next = refl;
  stays = record { stopped = omega arith; completed = cond_stays (complete S) (complete (let_go task S)) 64 (complete_let_go task S) };
}

sent_stays : (o : Option ℤ) (v : ℤ) (b : Bool) → ((is_some o && b) ≡ true) → (is_some (sent o v) && b) ≡ true
sent_stays None v b h = absurd (false≢true h)
sent_stays (Some first) v b h = h

-- the first stop wakes at most as many as are listed, and no other wakes anybody
pub record StopWakes (S : Stops) (v : ℤ) : Type 0 where
  pub all : length (stop_wakes S) ≤ length S.roll.rows
  pub counted : length S.roll.rows ≤ 64 → length (stop_wakes S) + by_stop S ≤ by_stop (stopped_by v S)
  pub completed : by_completion S ≤ by_completion (stopped_by v S)

pub stop_wakes_few : (v : ℤ) (S : Stops) → StopWakes S v
stop_wakes_few v S = record {
  all = all_of S.value;
  counted = go S.value;
  completed = cond_stays (complete S) (complete (stopped_by v S)) 64 (sent_stays S.value v (not (some_open S.roll.rows)));
}
  where
    all_of : (o : Option ℤ) → length (whether o (called is_waiting S.roll.rows) []) ≤ length S.roll.rows
    all_of None = length_called is_waiting S.roll.rows
    all_of (Some first) = omega arith

    go : (o : Option ℤ) → length S.roll.rows ≤ 64 → length (whether o (called is_waiting S.roll.rows) []) + cond (is_some o) 64 0 ≤ cond (is_some (sent o v)) 64 0
    go None few = omega (arith, length_called is_waiting S.roll.rows)
    go (Some first) few = omega arith

-- completion wakes at most as many as are listed, and only when it comes
pub record CompletionWakes (S T : Stops) : Type 0 where
  pub all : length (completion_wakes S T) ≤ length T.roll.rows
  pub counted : length T.roll.rows ≤ 64 → length (completion_wakes S T) + by_completion S ≤ by_completion T

completion_wakes_few : (S T : Stops) → (complete S ≡ true → complete T ≡ true) → CompletionWakes S T
completion_wakes_few S T stays = record { all = all_of (comes S T); counted = go (complete S) (complete T) stays } where
  all_of : (b : Bool) → length (cond b (called has_asked T.roll.rows) []) ≤ length T.roll.rows
  all_of true = length_called has_asked T.roll.rows
  all_of false = omega arith

  go : (a b : Bool) → (a ≡ true → b ≡ true) → length T.roll.rows ≤ 64 → length (cond (b && not a) (called has_asked T.roll.rows) []) + cond a 64 0 ≤ cond b 64 0
  go true true h few = omega arith
  go true false h few = absurd (false≢true (h refl))
  go false true h few = omega (arith, length_called has_asked T.roll.rows)
  go false false h few = omega arith

pub let_go_wakes : (task : ℕ) (S : Stops) → CompletionWakes S (let_go task S)
let_go_wakes task S = completion_wakes_few S (let_go task S) (complete_let_go task S)

pub ended_wakes : (task : ℕ) (S : Stops) → CompletionWakes S (ended task S)
ended_wakes task S = completion_wakes_few S (ended task S) (complete_ended task S)
