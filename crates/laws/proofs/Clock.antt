-- What moves the clock: no act does, and a close does by one cycle and by a jump.
use Rattle.std.proofs.Common.{◌≡◌, ℕ, List, [], ◌∷◌, ◌++◌, Some, None, Option, sym, refl, ◌∙◌, subst}
use Rattle.deterministic.specs.declared.clock.Clock.{Clock}
use Rattle.deterministic.specs.Model.{Model}
use Rattle.deterministic.specs.Moves.{wake, register, arm, mark, pend, leave, grow, quiet}
use Rattle.deterministic.specs.Acts.{Act}
use Rattle.deterministic.specs.Run.{Finish, ticked, rung}
use Rattle.deterministic.specs.History.{Round, Close, clock_by, clock_after, moves_by}
use Rattle.deterministic.specs.Went.{jumped_to}
use Rattle.laws.specs.Story.{Did, moves, polls, skips, calls, Path, here, next, Closed, before, timeout, stalls, completes}
use Rattle.laws.proofs.AlarmsStruck.{rung_clock}

act_clock : (m n : Model) (a : Act) → Did m a n → n.clock ≡ m.clock
act_clock m _ _ (moves (wake i cause) f) = refl
act_clock m _ _ (moves (register i label node) f) = refl
act_clock m _ _ (moves (arm x) f) = refl
act_clock m _ _ (moves (mark i) f) = refl
act_clock m _ _ (moves (pend i) f) = refl
act_clock m _ _ (moves (leave i ending) f) = refl
act_clock m _ _ (moves (grow g) f) = refl
act_clock m _ _ (moves (quiet q) f) = refl
act_clock m _ _ (polls t called ids d r) = refl
act_clock m _ _ (skips i ids d r) = refl
act_clock m _ _ (calls t c) = refl

pub path_clock : (m n : Model) (acts : List Act) → Path m acts n → n.clock ≡ m.clock
path_clock m n acts here = refl
path_clock m n acts (next {n = k} {a = a} {more = more} d p) = path_clock k n more p ∙ act_clock m k a d

-- from the one to the other a close has moved the clock
pub record Moved (was : Clock) (c : Close) (is : Clock) : Type 0 where
  pub time : is.time ≡ clock_by was.time c
  pub cycle : is.cycle ≡ was.cycle

moved_rung : (m : Model) (was : Clock) (c : Close) → Moved was c m.clock → Moved was c (rung m).clock
moved_rung m was c h = subst (Moved was c) (sym (rung_clock m)) h

pub closed_moved : (m : Model) (c : Close) (n : Model) (f : Option Finish) → Closed m c n f → Moved m.clock c n.clock
closed_moved m _ _ _ (before f) = record { time = refl; cycle = refl }
closed_moved m _ _ _ (timeout {j = None} d k) = record { time = refl; cycle = refl }
closed_moved m _ _ _ (timeout {j = Some t} d k) = record { time = refl; cycle = refl }
closed_moved m _ _ _ (stalls {j = None} d k w) = moved_rung (ticked m) m.clock _ (record { time = refl; cycle = refl })
closed_moved m _ _ _ (stalls {j = Some t} d k w) = moved_rung (jumped_to (Some t) (ticked m)) m.clock _ (record { time = refl; cycle = refl })
closed_moved m _ _ _ (completes {j = None} d k w) = moved_rung (ticked m) m.clock _ (record { time = refl; cycle = refl })
closed_moved m _ _ _ (completes {j = Some t} d k w) = moved_rung (jumped_to (Some t) (ticked m)) m.clock _ (record { time = refl; cycle = refl })

-- the close of the last round, and of one that another follows
pub closed_last : (m : Model) (c : Close) (n : Model) (f : Option Finish) → Closed m c n f → moves_by m.clock.time m.clock.cycle c []
closed_last m _ _ _ (before f) = refl
closed_last m _ _ _ (timeout d k) = (refl, refl)
closed_last m _ _ _ (stalls d k w) = refl
closed_last m _ _ _ (completes d k w) = refl

pub closed_on : (m : Model) (c : Close) (n : Model) (more : List Round) → Closed m c n None → moves_by m.clock.time m.clock.cycle c more
closed_on m _ _ more (completes d k w) = refl

-- the clock after one round more
pub clock_after_more : (t : ℕ) (rounds : List Round) (r : Round) → clock_after t (rounds ++ r ∷ []) ≡ clock_by (clock_after t rounds) r.close
unfolding clock_after
clock_after_more t [] r = refl
clock_after_more t (x ∷ rounds) r = clock_after_more (clock_by t x.close) rounds r
