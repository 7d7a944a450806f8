-- When alarms of one time ring, over the rounds of a story, and what it says of an alarm that is armed once.
use Rattle.std.proofs.Common.{◌≡◌, ℕ, ◌+◌, Bool, true, false, List, [], ◌∷◌, ◌++◌, Option, ◌∙◌, subst, ⊎_elim, arith}
use Rattle.std.proofs.lemmas.Bool.{cases_Bool}
use Rattle.alarms.specs.declared.Alarm.{Alarm}
use Rattle.deterministic.specs.Model.{Model}
use Rattle.deterministic.specs.Run.{Finish}
use Rattle.deterministic.specs.History.{Round, over, armed, rung, reached}
use Rattle.laws.specs.Story.{Played, Story, shut, over as last, on}
use Rattle.laws.proofs.AlarmsCounts.{number}
use Rattle.laws.proofs.AlarmsStruck.{OfTime}
use Rattle.laws.proofs.AlarmsPast.{played_grew, played_struck, number_over_one, number_over_none}

module _ (test : Alarm → Bool) (time : ℕ) where
  -- rounds, before which so many alarms that pass are pending: a round whose clock has reached the time rings these and those
  -- that it armed; another rings none
  unfoldable pub Rings : ℕ → List Round → Type 0
  Rings pending [] = Unit {0}
  Rings pending (r ∷ more) =
      (reached time r.close ≡ true → (number test (rung r) ≡ pending + number test (armed r)) × Rings 0 more)
      × (reached time r.close ≡ false → (number test (rung r) ≡ 0) × Rings (pending + number test (armed r)) more)

  module _ (of : OfTime time test) where
    played_rings : {m : Model} {r : Round} {n : Model} {f : Option Finish} → Played m r n f → (more : List Round) → Rings (number test n.alarms.alarms) more → Rings (number test m.alarms.alarms) (r ∷ more)
    unfolding Rings
    played_rings p more rest =
        let g = (played_grew p).numbers test in
        let s = played_struck p in (
          λ h. let k = s.ring test time of h in (k.0 ∙ g, subst (λ (n : ℕ). Rings n more) k.1 rest),
          λ h. let k = s.rest test time of h in (k.0, subst (λ (n : ℕ). Rings n more) (k.1 ∙ g) rest),
        )

    -- those that pass ring so from a story's start on
    pub story_rings : {m : Model} {rounds : List Round} {o : Model} {f : Finish} → Story m rounds o f → Rings (number test m.alarms.alarms) rounds
    unfolding Rings
    story_rings shut = tt
    story_rings (last p) = played_rings p [] tt
    story_rings (on {more = more} p s) = played_rings p more (story_rings s)

  -- where none is pending or armed, none rings, and none is pending then
  pub rings_none : (pending : ℕ) (before rest : List Round) → Rings pending (before ++ rest) → pending + number test (over armed before) ≡ 0 → (number test (over rung before) ≡ 0) × Rings 0 rest
  unfolding Rings
  rings_none pending [] rest h none = (number_over_none test rung, subst (λ (n : ℕ). Rings n rest) (omega (arith, number_over_none test armed)) h)
  rings_none pending (r ∷ before) rest h none =
      let a = number_over_one test armed r before in
      let b = number_over_one test rung r before in
      ⊎_elim
      (λ e.
      let k = h.0 e in
      let more = rings_none 0 before rest k.1 (omega (arith, a)) in
      (omega (arith, a, b, k.0, more.0), more.1))
      (λ e.
      let k = h.1 e in
      let more = rings_none (pending + number test (armed r)) before rest k.1 (omega (arith, a)) in
      (omega (arith, b, k.0, more.0), more.1))
      (cases_Bool (reached time r.close))
