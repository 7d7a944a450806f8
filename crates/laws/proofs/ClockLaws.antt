-- The laws of the clock, of each round at its place.
use Rattle.std.proofs.Common.{◌≡◌, ℕ, ◌+◌, ◌<◌, ◌≤◌, true, ◌⊎◌, List, [], ◌∷◌, ◌++◌, length, None, Option, sym, refl, ap, ◌∙◌, subst, ⊎_elim, append-nil, arith}
use Rattle.alarms.specs.declared.Alarm.{Alarm}
use Rattle.alarms.specs.Order.{ordered}
use Rattle.deterministic.specs.declared.clock.Clock.{Clock}
use Rattle.deterministic.specs.Model.{Model}
use Rattle.deterministic.specs.Run.{Finish, ticked}
use Rattle.deterministic.specs.Acts.{queuing, all_of}
use Rattle.deterministic.specs.History as history
use Rattle.deterministic.specs.History.{Round, Close, over, armed, rung, dealt, same, moves_by, ClockMoves, ClockJumps, Pending, jump_by, jumps_by}
use Rattle.deterministic.specs.Went as went
use Rattle.deterministic.specs.Went.{Jumps}
use Rattle.laws.specs.Story.{Closed, before, timeout, stalls, completes}
use Rattle.laws.proofs.Story.{steps_path}
use Rattle.laws.proofs.Traces.{path_queues, path_deals}
use Rattle.laws.proofs.AlarmsCounts.{one, number, count_number, same_self}
use Rattle.laws.proofs.AlarmsOrders.{first_earliest}
use Rattle.laws.proofs.AlarmsPast.{played_grew, played_clock, number_over_more, past_more, Placed}
use Rattle.laws.proofs.Clock.{closed_last, closed_on}

-- how a round that has ended the run or not moves the clock
closed_moves : (m : Model) (c : Close) (n : Model) (f : Option Finish) (after : List Round) → Closed m c n f → (f ≡ None) ⊎ (after ≡ []) → moves_by m.clock.time m.clock.cycle c after
closed_moves m c n f after k last =
    ⊎_elim
    (λ e. closed_on m c n after (subst (Closed m c n) e k))
    (λ e. subst (moves_by m.clock.time m.clock.cycle c) (sym e) (closed_last m c n f k))
    last

-- an alarm stands in a list that it heads
heads : (x : Alarm) (xs ys : List Alarm) → ys ≡ x ∷ xs → 0 < number (same x) ys
heads x xs ys e = subst (λ (l : List Alarm). 0 < number (same x) l) (sym e) (omega (arith, ap one (same_self x)))

module _ (start cycle : ℕ) (past : List Round) (r : Round) (after : List Round) (p : Placed start cycle past r after) where
  pub clock_moves : ClockMoves start cycle past r after
  clock_moves =
      let k = closed_moves p.played.closing r.close p.leaving p.finish after p.played.closed p.last in
      let is = played_clock p.played in
      subst (λ (t : ℕ). moves_by t cycle r.close after) (ap (λ (c : Clock). c.time) is ∙ p.past.time)
      (subst (λ (n : ℕ). moves_by p.played.closing.clock.time n r.close after) (ap (λ (c : Clock). c.cycle) is ∙ p.past.steady) k)

  -- what stands at the close is what is pending
  standing_pending : (a : Alarm) → 0 < number (same a) p.played.closing.alarms.alarms → Pending past r a
  standing_pending a some =
      let grew = (played_grew p.played).numbers (same a) in
      let was = p.past.accounted (same a) in
      let once = (past_more start cycle p.played past p.past).once a in
      let more = number_over_more (same a) armed past r in
      record {
        is_armed = omega (arith, count_number a (over armed past), count_number a (armed r), grew, was, some);
        not_rung = omega (arith, count_number a (over rung past), grew, was, once, more, some);
      }

  pending_standing : (a : Alarm) → Pending past r a → 0 < number (same a) p.played.closing.alarms.alarms
  pending_standing a h =
      omega (
        arith,
        count_number a (over armed past),
        count_number a (armed r),
        count_number a (over rung past),
        h.is_armed,
        h.not_rung,
        (played_grew p.played).numbers (same a),
        p.past.accounted (same a),
      )

  -- the first that stands is pending, and the earliest
  first_pending : (x : Alarm) (xs : List Alarm) → p.played.closing.alarms.alarms ≡ x ∷ xs → Pending past r x
  first_pending x xs e = standing_pending x (heads x xs p.played.closing.alarms.alarms e)

  earliest_pending : (x : Alarm) (xs : List Alarm) → p.played.closing.alarms.alarms ≡ x ∷ xs → (a : Alarm) → Pending past r a → x.time ≤ a.time
  earliest_pending x xs e a h =
      first_earliest p.played.closing.alarms.next a x xs
      (subst (λ (l : List Alarm). ordered p.played.closing.alarms.next l ≡ true) e ((played_grew p.played).orders p.past.orders))
      (subst (λ (l : List Alarm). 0 < number (same a) l) e (pending_standing a h))

  none_pending : p.played.closing.alarms.alarms ≡ [] → (a : Alarm) → Pending past r a → ⊥
  none_pending e a h = omega (arith, ap (number (same a)) e, pending_standing a h)

  -- what waits at the close was queued in the round, and where nothing is drained any more all is dealt
  waits : p.played.closing.queues.waiting ≡ all_of queuing r.acts
  waits = path_queues (steps_path p.played.steps)

  all_dealt : p.played.closing.queues.drained ≡ [] → dealt r ≡ r.drained
  all_dealt e = sym (path_deals (steps_path p.played.steps) ∙ (ap (λ (l : List ℕ). dealt r ++ l) e ∙ append-nil (dealt r)))

  jump_is : (j : Option ℕ) → p.played.closing.queues.drained ≡ [] → Jumps (ticked p.played.closing) j → jump_by past r (p.played.closing.clock.time + p.played.closing.clock.cycle) j
  jump_is _ out (went.busy some) = history.busy (subst (λ (l : List ℕ). 0 < length l) waits some)
  jump_is _ out (went.no_alarm none) = history.no_alarm (none_pending none)
  jump_is _ out (went.due_already a more e early) = history.due a (first_pending a more e) early
  jump_is _ out (went.jumps a more idle e forward) = record {
    all_dealt = all_dealt out;
    idle = sym waits ∙ idle;
    forward = forward;
    alarm = a;
    time = refl;
    pending = first_pending a more e;
    earliest = earliest_pending a more e;
  }

  jumps_are : (c : Close) (n : Model) (f : Option Finish) → Closed p.played.closing c n f → jumps_by past r c
  jumps_are _ _ _ (before f) = tt
  jumps_are _ _ _ (timeout {j = j} out k) = jump_is j out k
  jumps_are _ _ _ (stalls {j = j} out k w) = jump_is j out k
  jumps_are _ _ _ (completes {j = j} out k w) = jump_is j out k

  pub clock_jumps : ClockJumps past r after
  clock_jumps = jumps_are r.close p.leaving p.finish p.played.closed
