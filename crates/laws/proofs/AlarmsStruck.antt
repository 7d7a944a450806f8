-- What the close of a round does to the alarms: those that its clock has reached ring, and the others stand.
use Rattle.std.proofs.Common.{◌≡◌, ℕ, ◌+◌, Bool, true, false, not, leb, List, [], ◌∷◌, Some, None, Option, sym, refl, ap, ◌∙◌, subst, arith}
use mathlib.Core.Bool.{false≢true}
use Rattle.std.proofs.lemmas.Bool.{leb-true, leb-false}
use Rattle.entry.specs.declared.Entry.TheVariants as entry
use Rattle.alarms.specs.declared.Alarm.{Alarm}
use Rattle.alarms.specs.Model.{Bells}
use Rattle.alarms.specs.Laws.{due, later}
use Rattle.alarms.proofs.Orders as bells
use Rattle.deterministic.specs.Model.{Model, queued, with_alarms}
use Rattle.deterministic.specs.Run.{Finish, ringing, standing, rung, ticked}
use Rattle.deterministic.specs.History.{Close, never, out_of_time, rang, clock_at, rung_in, reached, InOrder}
use Rattle.deterministic.specs.Went.{jumped_to}
use Rattle.laws.specs.Story.{Closed, before, timeout, stalls, completes, rings_of}
use Rattle.laws.proofs.AlarmsCounts.{number, number_split, number_due, number_none_due}
use Rattle.laws.proofs.AlarmsOrders.{ordered_part, ordered_in_order}

-- rings queue tasks and write entries, and touch neither alarms nor clock
ringing_alarms : (xs : List Alarm) (m : Model) → (ringing xs m).alarms ≡ m.alarms
unfolding ringing
ringing_alarms [] m = refl
ringing_alarms (a ∷ xs) m = ringing_alarms xs (queued a.task (entry.Ring a.task a.time) m)

ringing_clock : (xs : List Alarm) (m : Model) → (ringing xs m).clock ≡ m.clock
unfolding ringing
ringing_clock [] m = refl
ringing_clock (a ∷ xs) m = ringing_clock xs (queued a.task (entry.Ring a.task a.time) m)

pub rung_alarms : (m : Model) → (rung m).alarms ≡ standing (later m.clock.time m.alarms.alarms) m.alarms
rung_alarms m = ringing_alarms (due m.clock.time m.alarms.alarms) (with_alarms (standing (later m.clock.time m.alarms.alarms) m.alarms) m)

pub rung_clock : (m : Model) → (rung m).clock ≡ m.clock
rung_clock m = ringing_clock (due m.clock.time m.alarms.alarms) (with_alarms (standing (later m.clock.time m.alarms.alarms) m.alarms) m)

-- only alarms of the time pass the test
abbrev pub OfTime : ℕ → (Alarm → Bool) → Type 0
OfTime time test = (a : Alarm) → test a ≡ true → a.time ≡ time

-- from the one to the other alarms rang, as the close tells
pub record Struck (B : Bells) (c : Close) (C : Bells) : Type 0 where
  -- of the alarms of one time all ring if it is reached, and else none
  pub ring : (test : Alarm → Bool) (time : ℕ) → OfTime time test → reached time c ≡ true → (number test (rung_in c) ≡ number test B.alarms) × (number test C.alarms ≡ 0)
  pub rest : (test : Alarm → Bool) (time : ℕ) → OfTime time test → reached time c ≡ false → (number test (rung_in c) ≡ 0) × (number test C.alarms ≡ number test B.alarms)
  -- what stood rang or stands
  pub either : (test : Alarm → Bool) → number test (rung_in c) + number test C.alarms ≡ number test B.alarms
  -- no serial is taken, and alarms in order ring in order and stay so
  pub next : C.next ≡ B.next
  pub rings_order : bells.InOrder B → InOrder (rung_in c)
  pub orders : bells.InOrder B → bells.InOrder C

-- no alarm rings
struck_none : (c : Close) (B : Bells) → ((time : ℕ) → reached time c ≡ false) → rung_in c ≡ [] → Struck B c B
unfolding InOrder
struck_none c B none e = record {
  ring = λ test time of h. absurd (false≢true (sym (none time) ∙ h));
  rest = λ test time of h. (ap (number test) e, refl);
  either = λ test. omega (arith, ap (number test) e);
  next = refl;
  rings_order = λ o. subst InOrder (sym e) tt;
  orders = λ o. o;
}

-- the alarms ring that are due after cycle and jump
struck_due : (ticks : ℕ) (j : Option ℕ) (B : Bells) → Struck B (rang ticks j (due (clock_at ticks j) B.alarms)) (standing (later (clock_at ticks j) B.alarms) B)
struck_due ticks j B =
    let now = clock_at ticks j in
    let xs = B.alarms in
    record {
      ring = λ test time of h. let k = number_due test time of now xs (leb-true time now h) in (k, omega (arith, k, number_split test now xs));
      rest = λ test time of h. let k = number_none_due test time of now xs (leb-false time now h) in (k, omega (arith, k, number_split test now xs));
      either = λ test. number_split test now xs;
      next = refl;
      rings_order = λ o. ordered_in_order B.next (due now xs) (ordered_part (λ a. leb a.time now) B.next xs o);
      orders = λ o. ordered_part (λ a. not (leb a.time now)) B.next xs o;
    }

struck_rung : (j : Option ℕ) (m : Model) → Struck m.alarms (rang (m.clock.time + m.clock.cycle) j (rings_of j m)) (rung (jumped_to j (ticked m))).alarms
struck_rung None m = subst (Struck m.alarms _) (sym (rung_alarms (ticked m))) (struck_due (m.clock.time + m.clock.cycle) None m.alarms)
struck_rung (Some t) m = subst (Struck m.alarms _) (sym (rung_alarms (jumped_to (Some t) (ticked m)))) (struck_due (m.clock.time + m.clock.cycle) (Some t) m.alarms)

pub closed_struck : (m : Model) (c : Close) (n : Model) (f : Option Finish) → Closed m c n f → Struck m.alarms c n.alarms
closed_struck m _ _ _ (before f) = struck_none never m.alarms (λ time. refl) refl
closed_struck m _ _ _ (timeout {j = None} d k) = struck_none (out_of_time (m.clock.time + m.clock.cycle) None) m.alarms (λ time. refl) refl
closed_struck m _ _ _ (timeout {j = Some t} d k) = struck_none (out_of_time (m.clock.time + m.clock.cycle) (Some t)) m.alarms (λ time. refl) refl
closed_struck m _ _ _ (stalls {j = j} d k w) = struck_rung j m
closed_struck m _ _ _ (completes {j = j} d k w) = struck_rung j m
