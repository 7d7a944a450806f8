-- Steps, closes and rounds leave registry and tree as they were told, and call only whom they may.
use Rattle.std.proofs.Common.{◌≡◌, ℕ, List, [], ◌∷◌, ◌++◌, map, Some, None, Option, sym, refl, ap, ◌∙◌, subst, append_assoc, append-nil}
use Rattle.entry.specs.declared.Entry.TheVariants as entry
use Rattle.alarms.specs.declared.Alarm.{Alarm}
use Rattle.alarms.specs.Laws.{due, later}
use Rattle.deterministic.specs.Model.{Model, queued, with_alarms}
use Rattle.deterministic.specs.Moves.{Move, wake, register, arm, mark, pend, leave, grow, quiet, plant, seat, close, close_all, fell, moves}
use Rattle.deterministic.specs.Calls.{doings}
use Rattle.deterministic.specs.Ending.{ending_of}
use Rattle.deterministic.specs.Run.{Finish, ringing, standing, rung, ticked}
use Rattle.deterministic.specs.Below.{Tiding, planted, seated, marked, ended, called, MayBeCalled, EachCall}
use Rattle.deterministic.specs.Acts.{Act, did, telling, all_of}
use Rattle.deterministic.specs.History.{Round, Close}
use Rattle.deterministic.specs.Went.{jumped_to}
use Rattle.laws.specs.Story as story
use Rattle.laws.specs.Story.{Step, Steps, Closed, Played}
use Rattle.laws.proofs.KinWatched.{Watched, may_be_called}
use Rattle.laws.proofs.KinGrowth.{watched_called}
use Rattle.laws.proofs.KinMoves.{tells, acts_tell, leads_pend}
use Rattle.laws.proofs.KinEnding.{Ends, leads_ending}
use Rattle.laws.proofs.KinCalls.{leads_call}

-- CALLS. each call in what is told next may be made, after what was told before
abbrev pub CallsFrom : List Tiding → List Tiding → Type 0
CallsFrom past [] = Unit {0}
CallsFrom past (planted node parent ∷ more) = CallsFrom (past ++ planted node parent ∷ []) more
CallsFrom past (seated task node ∷ more) = CallsFrom (past ++ seated task node ∷ []) more
CallsFrom past (marked task ∷ more) = CallsFrom (past ++ marked task ∷ []) more
CallsFrom past (ended task ∷ more) = CallsFrom (past ++ ended task ∷ []) more
CallsFrom past (called task ∷ more) = MayBeCalled past task × CallsFrom (past ++ called task ∷ []) more

-- one tiding more before is one more in front of the rest
calls_shift : (past : List Tiding) (x : Tiding) (next more : List Tiding) → CallsFrom (past ++ (x ∷ next)) more → CallsFrom ((past ++ x ∷ []) ++ next) more
calls_shift past x next more c = subst (λ (p : List Tiding). CallsFrom p more) (sym (append_assoc past (x ∷ []) next)) c

-- what is told next, and then what follows it
pub calls_append : (past next more : List Tiding) → CallsFrom past next → CallsFrom (past ++ next) more → CallsFrom past (next ++ more)
calls_append past [] more a b = subst (λ (p : List Tiding). CallsFrom p more) (append-nil past) b
calls_append past (planted n p ∷ next) more a b = calls_append (past ++ planted n p ∷ []) next more a (calls_shift past (planted n p) next more b)
calls_append past (seated i n ∷ next) more a b = calls_append (past ++ seated i n ∷ []) next more a (calls_shift past (seated i n) next more b)
calls_append past (marked i ∷ next) more a b = calls_append (past ++ marked i ∷ []) next more a (calls_shift past (marked i) next more b)
calls_append past (ended i ∷ next) more a b = calls_append (past ++ ended i ∷ []) next more a (calls_shift past (ended i) next more b)
calls_append past (called i ∷ next) more a b = (a.0, calls_append (past ++ called i ∷ []) next more a.1 (calls_shift past (called i) next more b))

-- the one at a place
call_at : (past before : List Tiding) (i : ℕ) (after : List Tiding) → CallsFrom past (before ++ called i ∷ after) → MayBeCalled (past ++ before) i
call_at past [] i after c = subst (λ (p : List Tiding). MayBeCalled p i) (sym (append-nil past)) c.0
call_at past (planted n p ∷ before) i after c = subst (λ (l : List Tiding). MayBeCalled l i) (append_assoc past (planted n p ∷ []) before) (call_at (past ++ planted n p ∷ []) before i after c)
call_at past (seated j n ∷ before) i after c = subst (λ (l : List Tiding). MayBeCalled l i) (append_assoc past (seated j n ∷ []) before) (call_at (past ++ seated j n ∷ []) before i after c)
call_at past (marked j ∷ before) i after c = subst (λ (l : List Tiding). MayBeCalled l i) (append_assoc past (marked j ∷ []) before) (call_at (past ++ marked j ∷ []) before i after c)
call_at past (ended j ∷ before) i after c = subst (λ (l : List Tiding). MayBeCalled l i) (append_assoc past (ended j ∷ []) before) (call_at (past ++ ended j ∷ []) before i after c)
call_at past (called j ∷ before) i after c = subst (λ (l : List Tiding). MayBeCalled l i) (append_assoc past (called j ∷ []) before) (call_at (past ++ called j ∷ []) before i after c.1)

-- each call in turn is each call at its place
pub each_call : (tidings : List Tiding) → CallsFrom [] tidings → EachCall tidings
each_call tidings c before i after is = call_at [] before i after (subst (CallsFrom []) is c)

-- moves call no body
moves_call_none : (l : List Move) (past : List Tiding) → CallsFrom past (tells l)
moves_call_none [] past = tt
moves_call_none (wake i c ∷ l) past = moves_call_none l past
moves_call_none (register i label node ∷ l) past = moves_call_none l past
moves_call_none (arm a ∷ l) past = moves_call_none l past
moves_call_none (mark i ∷ l) past = moves_call_none l (past ++ marked i ∷ [])
moves_call_none (pend i ∷ l) past = moves_call_none l past
moves_call_none (leave i h ∷ l) past = moves_call_none l (past ++ ended i ∷ [])
moves_call_none (grow (plant s p i) ∷ l) past = moves_call_none l (past ++ planted s p ∷ [])
moves_call_none (grow (seat i c s) ∷ l) past = moves_call_none l ((past ++ planted s c ∷ []) ++ seated i c ∷ [])
moves_call_none (grow (close c) ∷ l) past = moves_call_none l past
moves_call_none (grow (close_all i) ∷ l) past = moves_call_none l past
moves_call_none (grow (fell n) ∷ l) past = moves_call_none l past
moves_call_none (quiet q ∷ l) past = moves_call_none l past

-- STEPS. all is as it was told
abbrev pub AsTold : List Tiding → Model → Type 0
AsTold past m = Watched past [] m.registry m.tree

-- it still is after what is told next, and whoever is called in it may be
pub record Goes_on (past next : List Tiding) (n : Model) : Type 0 where
  pub still : AsTold (past ++ next) n
  pub calls : CallsFrom past next

-- nothing is told
pub nothing_told : (past : List Tiding) (n : Model) → AsTold past n → Goes_on past [] n
nothing_told past n ok = record { still = subst (λ (p : List Tiding). AsTold p n) (sym (append-nil past)) ok; calls = tt }

-- moves
moved : (l : List Move) (past : List Tiding) (m : Model) → AsTold (past ++ tells l) (moves l m) → Goes_on past (all_of telling (map did l)) (moves l m)
moved l past m ok = subst (λ (next : List Tiding). Goes_on past next (moves l m)) (sym (acts_tell l)) (record { still = ok; calls = moves_call_none l past })

step_goes_on : {m n : Model} {acts : List Act} → Step m acts n → (past : List Tiding) → AsTold past m → Goes_on past (all_of telling acts) n
unfolding all_of
step_goes_on {n = n} (story.task_dealt t b ids d e) past ok = nothing_told past n ok
step_goes_on {n = n} (story.id_skipped i ids d e) past ok = nothing_told past n ok
step_goes_on {m = m} (story.body_called t c) past ok = record {
  still = watched_called past [] m.registry m.tree t.id ok;
  calls = (may_be_called past m.registry m.tree ok t.id t c.registered c.unmarked, tt);
}
step_goes_on {m = m} (story.body_asks c) past ok = moved (doings c m) past m (leads_call c m past ok)
step_goes_on {m = m} (story.task_ends i t h code e z) past ok =
    let ends : Ends i past m.registry m.tree = record { watched = ok; task = t; listed = e } in
    moved (ending_of i h code m) past m (leads_ending i h code m past ends)
step_goes_on {m = m} (story.body_pends i t e z) past ok = moved (pend i ∷ []) past m (leads_pend [] i m past ok)

-- one telling after another
pub goes_on_then : (past next more : List Tiding) (n o : Model) → Goes_on past next n → Goes_on (past ++ next) more o → Goes_on past (next ++ more) o
goes_on_then past next more n o a b = record {
  still = subst (λ (p : List Tiding). AsTold p o) (append_assoc past next more) b.still;
  calls = calls_append past next more a.calls b.calls;
}

all_of_append : {X : Type 0} (reading : Act → List X) (g h : List Act) → all_of reading (g ++ h) ≡ all_of reading g ++ all_of reading h
unfolding all_of
all_of_append reading [] h = refl
all_of_append {X} reading (a ∷ g) h = ap (λ (l : List X). reading a ++ l) (all_of_append reading g h) ∙ sym (append_assoc (reading a) (all_of reading g) (all_of reading h))

pub steps_go_on : {m n : Model} {acts : List Act} → Steps m acts n → (past : List Tiding) → AsTold past m → Goes_on past (all_of telling acts) n
unfolding all_of
steps_go_on {n = n} story.still past ok = nothing_told past n ok
steps_go_on {n = o} (story.onward {n = n} {acts = g} {more = h} s rest) past ok =
    let first = step_goes_on s past ok in
    subst (λ (next : List Tiding). Goes_on past next o) (sym (all_of_append telling g h))
    (goes_on_then past (all_of telling g) (all_of telling h) n o first (steps_go_on rest (past ++ all_of telling g) first.still))

-- ROUNDS. rings leave registry and tree
ringing_leaves : (past : List Tiding) (l : List Alarm) (m : Model) → AsTold past m → AsTold past (ringing l m)
unfolding ringing
ringing_leaves past [] m ok = ok
ringing_leaves past (a ∷ l) m ok = ringing_leaves past l (queued a.task (entry.Ring a.task a.time) m) ok

rung_leaves : (past : List Tiding) (m : Model) → AsTold past m → AsTold past (rung m)
rung_leaves past m ok =
    let now = m.clock.time in
    ringing_leaves past (due now m.alarms.alarms) (with_alarms (standing (later now m.alarms.alarms) m.alarms) m) ok

jump_leaves : (past : List Tiding) (j : Option ℕ) (m : Model) → AsTold past m → AsTold past (jumped_to j m)
jump_leaves past None m ok = ok
jump_leaves past (Some t) m ok = ok

-- so does a close
close_leaves : {m n : Model} {c : Close} {f : Option Finish} → Closed m c n f → (past : List Tiding) → AsTold past m → AsTold past n
close_leaves (story.before f) past ok = ok
close_leaves {m = m} (story.timeout {j = j} d k) past ok = jump_leaves past j (ticked m) ok
close_leaves {m = m} (story.stalls {j = j} d k z) past ok = rung_leaves past (jumped_to j (ticked m)) (jump_leaves past j (ticked m) ok)
close_leaves {m = m} (story.completes {j = j} d k z) past ok = rung_leaves past (jumped_to j (ticked m)) (jump_leaves past j (ticked m) ok)

pub round_goes_on : {m n : Model} {r : Round} {f : Option Finish} → Played m r n f → (past : List Tiding) → AsTold past m → Goes_on past (all_of telling r.acts) n
round_goes_on {r = r} p past ok =
    let on = steps_go_on p.steps past ok in
    record { still = close_leaves p.closed (past ++ all_of telling r.acts) on.still; calls = on.calls }
