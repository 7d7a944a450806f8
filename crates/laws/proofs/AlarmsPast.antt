-- Where rounds have led: what was armed has rung or stands, serials to come are unused, and the clock is where the rounds moved it.
use Rattle.std.proofs.Common.{◌≡◌, ℕ, ◌+◌, ◌≤◌, Bool, ◌⊎◌, List, [], ◌∷◌, ◌++◌, Some, None, Option, sym, refl, ap, ◌∙◌, subst, inl, inr, ⊎_elim, append_assoc, append-nil, arith}
use Rattle.std.proofs.lemmas.Bool.{cases_lt}
use Rattle.alarms.specs.declared.Alarm.{Alarm}
use Rattle.alarms.proofs.Orders.{InOrder}
use Rattle.deterministic.specs.declared.clock.Clock.{Clock}
use Rattle.deterministic.specs.Model.{Model}
use Rattle.deterministic.specs.Run.{Finish, timed_out, opened, ended}
use Rattle.deterministic.specs.History.{Round, over, armed, rung, same, clock_by, clock_after}
use Rattle.laws.specs.Story.{Played, Story, shut, over as last, on}
use Rattle.laws.proofs.Story.{steps_path}
use Rattle.laws.proofs.AlarmsCounts.{number, number_append}
use Rattle.laws.proofs.AlarmsArmed.{Grew, path_grew}
use Rattle.laws.proofs.AlarmsStruck.{Struck, closed_struck}
use Rattle.laws.proofs.Each.{EachFrom}
use Rattle.laws.proofs.Clock.{path_clock, Moved, closed_moved, clock_after_more}

-- a reading of rounds one behind another
pub number_over : (test : Alarm → Bool) (reading : Round → List Alarm) (xs ys : List Round) → number test (over reading (xs ++ ys)) ≡ number test (over reading xs) + number test (over reading ys)
unfolding over
number_over test reading [] ys = omega arith
number_over test reading (x ∷ xs) ys =
    omega (arith, number_append test (reading x) (over reading (xs ++ ys)), number_over test reading xs ys, number_append test (reading x) (over reading xs))

pub number_over_one : (test : Alarm → Bool) (reading : Round → List Alarm) (r : Round) (rounds : List Round) → number test (over reading (r ∷ rounds)) ≡ number test (reading r) + number test (over reading rounds)
unfolding over
number_over_one test reading r rounds = number_append test (reading r) (over reading rounds)

pub number_over_none : (test : Alarm → Bool) (reading : Round → List Alarm) → number test (over reading []) ≡ 0
unfolding over
number_over_none test reading = refl

pub number_over_more : (test : Alarm → Bool) (reading : Round → List Alarm) (rounds : List Round) (r : Round) → number test (over reading (rounds ++ r ∷ [])) ≡ number test (over reading rounds) + number test (reading r)
number_over_more test reading rounds r =
    omega (arith, number_over test reading rounds (r ∷ []), number_over_one test reading r [], number_over_none test reading)

-- one round
module _ {m : Model} {r : Round} {n : Model} {f : Option Finish} (p : Played m r n f) where
  pub played_grew : Grew m.alarms p.closing.alarms (armed r)
  played_grew = path_grew (opened r.drained m) p.closing r.acts (steps_path p.steps)

  pub played_struck : Struck p.closing.alarms r.close n.alarms
  played_struck = closed_struck p.closing r.close n f p.closed

  -- the clock at its close is the one at its opening
  pub played_clock : p.closing.clock ≡ m.clock
  played_clock = path_clock (opened r.drained m) p.closing r.acts (steps_path p.steps)

  pub played_moved : Moved m.clock r.close n.clock
  played_moved = subst (λ (c : Clock). Moved c r.close n.clock) played_clock (closed_moved p.closing r.close n f p.closed)

module _ (start cycle : ℕ) where
  -- these rounds have led to this executor
  pub record Past (rounds : List Round) (m : Model) : Type 0 where
    -- what was armed has rung, or stands
    pub accounted : (test : Alarm → Bool) → number test (over armed rounds) ≡ number test (over rung rounds) + number test m.alarms.alarms
    -- no alarm was armed with a serial to come, and none was armed twice
    pub unused : (a : Alarm) → m.alarms.next ≤ a.serial → number (same a) (over armed rounds) ≡ 0
    pub once : (a : Alarm) → number (same a) (over armed rounds) ≤ 1
    pub orders : InOrder m.alarms
    -- the clock is where the rounds have moved it
    pub time : m.clock.time ≡ clock_after start rounds
    pub steady : m.clock.cycle ≡ cycle

  pub past_more : {m : Model} {r : Round} {n : Model} {f : Option Finish} → Played m r n f → (rounds : List Round) → Past rounds m → Past (rounds ++ r ∷ []) n
  past_more {m} {r} {n} p rounds past =
      let g = played_grew p in
      let s = played_struck p in
      record {
        accounted = λ test. omega (arith, number_over_more test armed rounds r, number_over_more test rung rounds r, past.accounted test, g.numbers test, s.either test);
        unused = λ a h. omega (arith, number_over_more (same a) armed rounds r, past.unused a (omega (arith, g.up, s.next)), g.high a (omega (arith, s.next)));
        once = λ a. ⊎_elim
            (λ k. omega (arith, number_over_more (same a) armed rounds r, past.once a, g.low a k))
            (λ k. omega (arith, number_over_more (same a) armed rounds r, past.unused a k, g.once a))
            (cases_lt a.serial m.alarms.next);
        orders = s.orders (g.orders past.orders);
        time = (played_moved p).time ∙ (ap (λ (t : ℕ). clock_by t r.close) past.time ∙ sym (clock_after_more start rounds r));
        steady = (played_moved p).cycle ∙ past.steady;
      }

  -- the last entry touches neither alarms nor clock
  past_ended : {m : Model} (f : Finish) (rounds : List Round) → Past rounds m → Past rounds (ended f m)
  past_ended f rounds past = record { accounted = past.accounted; unused = past.unused; once = past.once; orders = past.orders; time = past.time; steady = past.steady }

  -- a round at its place: the rounds before it have led to the executor at its opening, and it is the last one if the run ends in it
  pub record Placed (before : List Round) (r : Round) (after : List Round) : Type 0 where
    pub opening : Model
    pub leaving : Model
    pub finish : Option Finish
    pub past : Past before opening
    pub played : Played opening r leaving finish
    pub last : (finish ≡ None) ⊎ (after ≡ [])

  -- a story tells each of its rounds at its place, and where all of them have led
  pub story_told : {m : Model} {rounds : List Round} {o : Model} {f : Finish} → Story m rounds o f → (before : List Round) → Past before m → EachFrom Placed before rounds × Past (before ++ rounds) o
  unfolding EachFrom
  story_told {m} shut before past = (tt, subst (λ (l : List Round). Past l (ended timed_out m)) (sym (append-nil before)) (past_ended timed_out before past))
  story_told {m} (last {n = n} {r = r} {f = f} p) before past =
      ((record { opening = m; leaving = n; finish = Some f; past = past; played = p; last = inr refl }, tt), past_ended f (before ++ r ∷ []) (past_more p before past))
  story_told {m} (on {n = n} {o = o} {r = r} {more = more} p s) before past =
      let rest = story_told s (before ++ r ∷ []) (past_more p before past) in
      ((record { opening = m; leaving = n; finish = None; past = past; played = p; last = inl refl }, rest.0), subst (λ (l : List Round). Past l o) (append_assoc before (r ∷ []) more) rest.1)
