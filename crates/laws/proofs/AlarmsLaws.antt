-- The laws of alarms, of each round at its place.
use Rattle.std.proofs.Common.{◌≡◌, ℕ, ◌+◌, ◌<◌, ◌≤◌, List, [], ◌∷◌, ◌++◌, sym, ap, ◌∙◌, subst, append-nil, arith}
use Rattle.alarms.specs.declared.Alarm.{Alarm}
use Rattle.deterministic.specs.Model.{Model}
use Rattle.deterministic.specs.Run.{Finish}
use Rattle.deterministic.specs.History.{Round, over, armed, rung, same, count, for_at, Each, Silent, RingsOnce, KeptAlarm, EveryAlarmRings, OnlyArmedRing, RingsInOrder, RingsByTime}
use Rattle.laws.specs.Story.{Story}
use Rattle.laws.proofs.AlarmsCounts.{number, count_number, for_at_number, is_for, for_time, same_time}
use Rattle.laws.proofs.AlarmsPast.{played_grew, played_struck, number_over, number_over_one, Placed}
use Rattle.laws.proofs.AlarmsRing.{Rings, story_rings, rings_none}

module _ (a : Alarm) where
  -- the alarm is not pending and not armed in these rounds: it is silent
  silent : (rounds : List Round) → Rings (same a) a.time 0 rounds → number (same a) (over armed rounds) ≡ 0 → Silent a rounds
  silent rounds h none =
      count_number a (over rung rounds)
      ∙ (rings_none (same a) a.time 0 rounds [] (subst (Rings (same a) a.time 0) (sym (append-nil rounds)) h) (omega (arith, none))).0

  -- the alarm is pending and not armed again: it rings once
  rings_once : (rounds : List Round) → Rings (same a) a.time 1 rounds → number (same a) (over armed rounds) ≡ 0 → RingsOnce a rounds
  unfolding Rings RingsOnce
  rings_once [] h none = tt
  rings_once (r ∷ more) h none =
      let arms = number_over_one (same a) armed r more in
      let later : number (same a) (over armed more) ≡ 0 = omega (arith, arms, none) in
      let one : 1 + number (same a) (armed r) ≡ 1 = omega (arith, arms, none) in (
        λ e. let k = h.0 e in (count_number a (rung r) ∙ (k.0 ∙ one), silent more k.1 later),
        λ e. let k = h.1 e in (count_number a (rung r) ∙ k.0, rings_once more (subst (λ (n : ℕ). Rings (same a) a.time n more) one k.1) later),
      )

  -- the alarm is armed in the first of these rounds and in no later one: it rings once
  armed_rings : (r : Round) (more : List Round) → Rings (same a) a.time 0 (r ∷ more) → number (same a) (armed r) ≡ 1 → number (same a) (over armed more) ≡ 0 → RingsOnce a (r ∷ more)
  unfolding Rings RingsOnce
  armed_rings r more h once later =
      let one : 0 + number (same a) (armed r) ≡ 1 = omega (arith, once) in (
        λ e. let k = h.0 e in (count_number a (rung r) ∙ (k.0 ∙ one), silent more k.1 later),
        λ e. let k = h.1 e in (count_number a (rung r) ∙ k.0, rings_once more (subst (λ (n : ℕ). Rings (same a) a.time n more) one k.1) later),
      )

  -- the alarm is armed at most once in all: where it is armed, it is kept
  kept : (before : List Round) (r : Round) (after : List Round) → Rings (same a) a.time 0 (before ++ r ∷ after) → number (same a) (over armed (before ++ r ∷ after)) ≤ 1 → 0 < count a (armed r) → KeptAlarm before r after a
  kept before r after h most some =
      let all = number_over (same a) armed before (r ∷ after) in
      let on = number_over_one (same a) armed r after in
      let here = count_number a (armed r) in
      let once : number (same a) (armed r) ≡ 1 = omega (arith, all, on, here, most, some) in
      let early : number (same a) (over armed before) ≡ 0 = omega (arith, all, on, here, most, some) in
      let late : number (same a) (over armed after) ≡ 0 = omega (arith, all, on, here, most, some) in
      let past = rings_none (same a) a.time 0 before (r ∷ after) h (omega (arith, early)) in
      record {
        once = here ∙ once;
        not_before = count_number a (over armed before) ∙ early;
        not_after = count_number a (over armed after) ∙ late;
        silent = count_number a (over rung before) ∙ past.0;
        rings = armed_rings r after past.1 once late;
      }

-- every alarm that is armed is kept
pub alarms_ring : {m : Model} {rounds : List Round} {o : Model} {f : Finish} → Story m rounds o f → m.alarms.alarms ≡ [] → ((a : Alarm) → number (same a) (over armed rounds) ≤ 1) → Each EveryAlarmRings rounds
alarms_ring {m} {rounds} s none most before r after is a some =
    let from : Rings (same a) a.time 0 rounds = subst (λ (l : List Alarm). Rings (same a) a.time (number (same a) l) rounds) none (story_rings (same a) a.time (same_time a) s) in
    kept a before r after (subst (Rings (same a) a.time 0) is from) (subst (λ (l : List Round). number (same a) (over armed l) ≤ 1) is (most a)) some

-- rings by task and time
rings_by_time : (task time pending : ℕ) (rounds : List Round) → Rings (is_for task time) time pending rounds → RingsByTime task time pending rounds
unfolding Rings RingsByTime
rings_by_time task time pending [] h = tt
rings_by_time task time pending (r ∷ more) h =
    let arms : pending + number (is_for task time) (armed r) ≡ pending + for_at task time (armed r) = ap (λ (n : ℕ). pending + n) (sym (for_at_number task time (armed r))) in
    let rings = for_at_number task time (rung r) in (
      λ e. let k = h.0 e in (rings ∙ (k.0 ∙ arms), rings_by_time task time 0 more k.1),
      λ e. let k = h.1 e in (rings ∙ k.0, subst (λ (n : ℕ). RingsByTime task time n more) arms (rings_by_time task time (pending + number (is_for task time) (armed r)) more k.1)),
    )

pub by_time : {m : Model} {rounds : List Round} {o : Model} {f : Finish} → Story m rounds o f → m.alarms.alarms ≡ [] → (task time : ℕ) → RingsByTime task time 0 rounds
by_time {m} {rounds} s none task time =
    rings_by_time task time 0 rounds
    (subst (λ (l : List Alarm). Rings (is_for task time) time (number (is_for task time) l) rounds) none (story_rings (is_for task time) time (for_time task time) s))

module _ (start cycle : ℕ) (before : List Round) (r : Round) (after : List Round) (p : Placed start cycle before r after) where
  -- what rings stood, and what stood was armed
  pub only_armed_ring : OnlyArmedRing before r after
  only_armed_ring a some =
      omega (
        arith,
        count_number a (rung r),
        count_number a (over armed before),
        count_number a (armed r),
        some,
        p.past.accounted (same a),
        (played_grew p.played).numbers (same a),
        (played_struck p.played).either (same a),
      )

  -- what stood was in order
  pub in_order : RingsInOrder before r after
  in_order = (played_struck p.played).rings_order ((played_grew p.played).orders p.past.orders)
