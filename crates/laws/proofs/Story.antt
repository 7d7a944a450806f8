-- Each run is a story.
use Rattle.std.proofs.Common.{◌≡◌, ℕ, ◌+◌, ◌<◌, Bool, true, false, cond, eqb, ltb, leb, List, [], ◌∷◌, ◌++◌, map, Some, None, Option, sym, refl, ap, ◌∙◌, subst, append_assoc, append-nil, arith, eqb-true, leb-false}
use Rattle.std.proofs.lemmas.Bool.{cond_both}
use mathlib.Core.List.{map-append}
use borrow.Author.Tests.{eqb-false}
use Rattle.keyed.specs.Choices.{given}
use Rattle.keyed.proofs.Finds.{find_key, find_change_some, find_push_old}
use Rattle.reasons.specs.declared.cause.Cause.{Cause}
use Rattle.reasons.specs.declared.cause.Cause.TheVariants as cause
use Rattle.reasons.specs.declared.ending.Ending.{Ending}
use Rattle.reasons.specs.declared.ending.Ending.TheVariants as ending
use Rattle.lineage.specs.Cascade.{cascaded}
use Rattle.lineage.specs.Family.{Family, open_for, aborted_at}
use Rattle.signal.specs.Model.{stop_wakes, completion_wakes}
use Rattle.signal.specs.Model as stops
use Rattle.arrange.specs.Order.{Order, asked}
use Rattle.deterministic.specs.declared.outcome.Outcome.{Outcome}
use Rattle.deterministic.specs.declared.outcome.Outcome.TheVariants as outcome
use Rattle.deterministic.specs.declared.refusal.Refusal.{Refusal}
use Rattle.deterministic.specs.declared.refusal.Refusal.TheVariants as refused
use Rattle.deterministic.specs.Model.{Task, Model, free, task_at, id_of, with_tree, one_not_running, marked, pended, new_task}
use Rattle.deterministic.specs.Moves as moved
use Rattle.deterministic.specs.Moves.{Move, register, arm, mark, pend, leave, grow, quiet, tally, grant, move, moves, Doing, ◌then◌, wakes}
use Rattle.deterministic.specs.Refusals.{◌else◌, unless, caller, reached, call_granted, room, context_held, not_aborted, node_left, link_left, label_short, task_free, place_free}
use Rattle.deterministic.specs.Calls as calls
use Rattle.deterministic.specs.Calls.{Call, refusal, does, despite, if_aborted, spending, doings_by, doings, after, apply, doings_of, marking, marking_task, arming}
use Rattle.deterministic.specs.Ending.{contexts_close, signal_goes, fault_kept, others, markings, cascading, cascade_of, cascade, stops_running, ending_of, is_marked, settling, settling_root}
use Rattle.deterministic.specs.Rules.{Turn}
use Rattle.deterministic.specs.Run.{Finish, ledger_spent, clock_spent, settle}
use Rattle.deterministic.specs.Acts.{Act, did}
use Rattle.deterministic.specs.History.{Round}
use Rattle.deterministic.specs.Went as went
use Rattle.deterministic.specs.Went.{Dealt, turn_acts, turned_to, at_call, turn_at, Deals, Plays, Went}
use Rattle.deterministic.proofs.Choices.{whether_by, given_by}
use Rattle.laws.specs.Story as story
use Rattle.laws.specs.Story.{Fits, Fit, Path, here, next, Step, task_dealt, id_skipped, body_called, body_asks, task_ends, body_pends, Steps, still, onward, Played, Story}

-- of two tests one after the other none refuses where neither does
pub else_none : (a b : Option Refusal) → (a else b) ≡ None → (a ≡ None) × (b ≡ None)
else_none None b e = (refl, e)
else_none (Some r) b e = absurd (let z : ◌≡◌ {A = ℕ} 1 0 = ap (λ (o : Option Refusal). given o 0 (λ _. 1)) e in omega arith)

-- a test that does not refuse holds
pub unless_none : (b : Bool) (r : Refusal) → unless b r ≡ None → b ≡ true
unless_none true r e = refl
unless_none false r e = absurd (let z : ◌≡◌ {A = ℕ} 1 0 = ap (λ (o : Option Refusal). given o 0 (λ _. 1)) e in omega arith)

-- a context that is not refused as aborted is not aborted
unaborted_none : (b : Bool) (r : Refusal) → cond b (Some r) None ≡ None → b ≡ false
unaborted_none true r e = absurd (let z : ◌≡◌ {A = ℕ} 1 0 = ap (λ (o : Option Refusal). given o 0 (λ _. 1)) e in omega arith)
unaborted_none false r e = refl

-- no task leaves by this move
abbrev pub Stays : Move → Type 0
Stays (moved.wake i cause) = Unit {0}
Stays (register i label node) = Unit {0}
Stays (arm a) = Unit {0}
Stays (mark i) = Unit {0}
Stays (pend i) = Unit {0}
Stays (leave i how) = ⊥
Stays (grow g) = Unit {0}
Stays (quiet q) = Unit {0}

-- moves that fit, by which no task leaves
unfoldable pub Milds : List Move → Model → Type 0
Milds [] m = Unit {0}
Milds (a ∷ more) m = (Fits a m × Stays a) × Milds more (move a m)

milds_fit : (l : List Move) (m : Model) → Milds l m → Fit l m
unfolding Milds Fit
milds_fit [] m f = tt
milds_fit (a ∷ l) m f = (f.0.0, milds_fit l (move a m) f.1)

wakes_mild : (c : Cause) (ids : List ℕ) (m : Model) → Milds (wakes c ids) m
unfolding Milds
wakes_mild c [] m = tt
wakes_mild c (i ∷ ids) m = ((tt, tt), wakes_mild c ids (move (moved.wake i c) m))

woken_mild : (b : Bool) (i : ℕ) (m : Model) → Milds (cond b (moved.wake i cause.Abort ∷ []) []) m
unfolding Milds
woken_mild true i m = ((tt, tt), tt)
woken_mild false i m = tt

-- a mark is of a registered task that is not marked
pub marking_mild : (i : ℕ) (m : Model) → Milds (marking i m) m
unfolding Milds
marking_mild i m = given_by (task_at i m) (λ l. Milds l m) [] marking_task (λ _. tt) (λ t e.
    let is : t.id ≡ i = find_key id_of i m.registry.tasks t e in
    let known : task_at t.id m ≡ Some t = ap (λ (j : ℕ). task_at j m) is ∙ e in
    cond_both t.marked _ _ (λ l. Milds l m) (λ _. tt)
    (λ q. ((record { task = t; registered = known; unmarked = q }, tt), woken_mild t.pended t.id (move (mark t.id) m))))

-- an alarm is armed for the caller, at a time that is not reached
arming_mild : (t : ℕ) (serial : Option ℕ) (m : Model) → Milds (arming t serial m) (move (quiet grant) m)
unfolding Milds
arming_mild t None m = cond_both (reached t m) _ _ (λ l. Milds l (move (quiet grant) m)) (λ _. tt)
    (λ q. ((record { serial = refl; task = refl; later = leb-false _ _ q }, tt), tt))
arming_mild t (Some serial) m = tt

-- what a granted call does, after it is granted
does_mild : (c : Call) (m : Model) → refusal c m ≡ None → Milds (does c m) (move (quiet grant) m)
unfolding Milds
does_mild calls.current m e = tt
does_mild (calls.child c) m e =
    let r = else_none (call_granted m) (context_held c m else node_left m else link_left c m) e in
    let held = else_none (context_held c m) (node_left m else link_left c m) r.1 in
    ((record { next = refl; held = unless_none (open_for (caller m) c m.tree) refused.NotOpen held.0; caller_is = refl }, tt), tt)
does_mild (calls.close c) m e =
    let r = else_none (call_granted m) (context_held c m) e in
    ((unless_none (open_for (caller m) c m.tree) refused.NotOpen r.1, tt), tt)
does_mild (calls.links c) m e = tt
does_mild (calls.spawn c label) m e =
    let last = link_left c m else place_free m in
    let some = not_aborted c m else task_free m else node_left m else last in
    let r = else_none (room m) (context_held c m else label_short label else some) e in
    let held = else_none (context_held c m) (label_short label else some) r.1 in
    let short = else_none (label_short label) some held.1 in
    let whole = else_none (not_aborted c m) (task_free m else node_left m else last) short.1 in (
      (refl, tt),
      (
        (
          record {
            next_task = refl;
            next = refl;
            held = unless_none (open_for (caller m) c m.tree) refused.NotOpen held.0;
            unaborted = unaborted_none (aborted_at c m.tree) refused.ContextAborted whole.0;
          },
          tt,
        ),
        ((refl, tt), tt),
      ),
    )
does_mild (calls.sleep d serial) m e = arming_mild (m.clock.time + d) serial m
does_mild (calls.sleep_until t serial) m e = arming_mild t serial m
does_mild (calls.wake i) m e = ((tt, tt), tt)
does_mild (calls.abort i) m e = marking_mild i (move (quiet grant) m)
does_mild (calls.stop v) m e = ((tt, tt), ((tt, tt), wakes_mild cause.Stop (stop_wakes m.stop) _))
does_mild calls.stopped m e = ((tt, tt), ((tt, tt), tt))
does_mild calls.signal m e = ((tt, tt), tt)
does_mild calls.completed m e = ((tt, tt), tt)
does_mild calls.let_go m e = ((tt, tt), wakes_mild cause.Stop (completion_wakes m.stop (stops.let_go (caller m) m.stop)) _)

-- want of room is not told as an aborted context
room_not_aborted : (a b : Bool) → (unless a refused.NoRoom else unless b refused.NoRoom) ≡ Some refused.ContextAborted → ⊥
room_not_aborted true true e = cc
room_not_aborted true false e = cc
room_not_aborted false b e = cc

held_by : (a : Option Refusal) (b : Bool) (rest : Option Refusal) → (a ≡ Some refused.ContextAborted → ⊥) → (a else unless b refused.NotOpen else rest) ≡ Some refused.ContextAborted → b ≡ true
held_by None true rest n e = refl
held_by None false rest n e = cc
held_by (Some r) b rest n e = absurd (n e)

-- a spawn that is refused for an aborted context spends a context that the caller holds
spending_mild : (r : Refusal) (c : ℕ) (label : List ℕ) (m : Model) → refusal (calls.spawn c label) m ≡ Some r → Milds (if_aborted r (spending c m)) m
unfolding Milds
spending_mild refused.NoRoom c label m e = tt
spending_mild refused.UnknownTask c label m e = tt
spending_mild refused.NotOpen c label m e = tt
spending_mild refused.LabelTooLong c label m e = tt
spending_mild refused.TooManyTasks c label m e = tt
spending_mild refused.TooManyNodes c label m e = tt
spending_mild refused.TooManyLinks c label m e = tt
spending_mild refused.ContextAborted c label m e =
    let last = label_short label else not_aborted c m else task_free m else node_left m else link_left c m else place_free m in
    let held = held_by (room m) (open_for (caller m) c m.tree) last (room_not_aborted (ltb m.body.granted 4096) (leb 512 (free m))) e in
    ((refl, tt), ((held, tt), tt))
spending_mild refused.TooManyWaiting c label m e = tt
spending_mild refused.TooManyAlarms c label m e = tt
spending_mild refused.NotOwnAlarm c label m e = tt
spending_mild refused.TimeTooLarge c label m e = tt
spending_mild refused.NoSignal c label m e = tt

despite_mild : (r : Refusal) (c : Call) (m : Model) → refusal c m ≡ Some r → Milds (despite r c m) m
unfolding Milds
despite_mild r calls.current m e = tt
despite_mild r (calls.child c) m e = tt
despite_mild r (calls.close c) m e = tt
despite_mild r (calls.links c) m e = tt
despite_mild r (calls.spawn c label) m e = spending_mild r c label m e
despite_mild r (calls.sleep d serial) m e = tt
despite_mild r (calls.sleep_until t serial) m e = tt
despite_mild r (calls.wake i) m e = tt
despite_mild r (calls.abort i) m e = tt
despite_mild r (calls.stop v) m e = tt
despite_mild r calls.stopped m e = tt
despite_mild r calls.signal m e = tt
despite_mild r calls.completed m e = tt
despite_mild r calls.let_go m e = tt

-- the moves of a call fit, and by none of them a task leaves
pub doings_mild : (c : Call) (m : Model) → Milds (doings c m) m
unfolding Milds
doings_mild c m = go (refusal c m) refl where
  go : (o : Option Refusal) → refusal c m ≡ o → Milds (doings_by o c m) m
  go None e = ((tt, tt), does_mild c m e)
  go (Some r) e = despite_mild r c m e

-- the moves of a call fit
pub doings_fit : (c : Call) (m : Model) → Fit (doings c m) m
doings_fit c m = milds_fit (doings c m) m (doings_mild c m)

-- what each of two doings fits, both fit, one after the other
fit_append : (k l : List Move) (m : Model) → Fit k m → Fit l (moves k m) → Fit (k ++ l) m
unfolding Fit
fit_append [] l m f g = g
fit_append (a ∷ k) l m f g = (f.0, fit_append k l (move a m) f.1 g)

then_fits : (f g : Doing) → ((m : Model) → Fit (f m) m) → ((m : Model) → Fit (g m) m) → (m : Model) → Fit ((f then g) m) m
then_fits f g p q m = fit_append (f m) (g (moves (f m) m)) m (p m) (q (moves (f m) m))

contexts_fit : (i : ℕ) (m : Model) → Fit (contexts_close i m) m
unfolding Fit
contexts_fit i m = (tt, tt)

signal_fits : (i : ℕ) (m : Model) → Fit (signal_goes i m) m
unfolding Fit
signal_fits i m = (tt, milds_fit _ _ (wakes_mild cause.Stop (completion_wakes m.stop (stops.ended i m.stop)) _))

fault_fits : (code : Option ℕ) (m : Model) → Fit (fault_kept code m) m
unfolding Fit
fault_fits None m = tt
fault_fits (Some code) m = cond_both m.faults.caught _ _ (λ l. Fit l m) (λ _. tt) (λ _.
    whether_by m.faults.kept (λ l. Fit l m) _ _ (λ _. (tt, (tt, tt))) (λ _ _. tt))

-- marks leave the tree
pub marking_tree : (i : ℕ) (F : Family) (m : Model) → moves (marking i m) (with_tree F m) ≡ with_tree F (moves (marking i m) m)
marking_tree i F m = given_by (task_at i m) (λ l. moves l (with_tree F m) ≡ with_tree F (moves l m)) [] marking_task (λ _. refl) (λ t _.
    cond_both t.marked _ _ (λ l. moves l (with_tree F m) ≡ with_tree F (moves l m)) (λ _. refl) (λ _.
    cond_both t.pended _ _ (λ l. moves (mark t.id ∷ l) (with_tree F m) ≡ with_tree F (moves (mark t.id ∷ l) m)) (λ _. refl) (λ _. refl)))

-- marks fit, whatever the tree is
markings_fit : (ids : List ℕ) (F : Family) (m : Model) → Fit (markings ids m) (with_tree F m)
unfolding Fit markings
markings_fit [] F m = tt
markings_fit (i ∷ ids) F m =
    let n : Model = moves (marking i m) m in
    fit_append (marking i m) (markings ids n) (with_tree F m) (milds_fit (marking i m) (with_tree F m) (marking_mild i (with_tree F m)))
    (subst (λ (x : Model). Fit (markings ids n) x) (sym (marking_tree i F m)) (markings_fit ids F n))

cascade_fits : (i : ℕ) (m : Model) → Fit (cascade i m) m
unfolding Fit
cascade_fits i m = given_by (task_at i m) (λ l. Fit l m) [] (λ t. cascade_of i t m) (λ _. tt) (λ t _.
    given_by t.node (λ l. Fit l m) [] (λ node. cascading i node m) (λ _. tt) (λ node _.
    let fallen = cascaded node m.tree in
    (tt, markings_fit (others i fallen.1) fallen.0 m)))

running_fits : (i : ℕ) (m : Model) → Fit (stops_running i m) m
unfolding Fit
running_fits i m = given_by (task_at i m) (λ l. Fit l m) [] (λ t. cond t.marked [] (quiet (tally (one_not_running m.counts)) ∷ [])) (λ _. tt) (λ t _.
    cond_both t.marked _ _ (λ l. Fit l m) (λ _. tt) (λ _. (refl, tt)))

leave_fits : (i : ℕ) (h : Ending) (m : Model) → Fit (leave i h ∷ []) m
unfolding Fit
leave_fits i h m = (tt, tt)

-- the moves of a task's end fit
pub ending_fits : (i : ℕ) (h : Ending) (code : Option ℕ) (m : Model) → Fit (ending_of i h code m) m
ending_fits i h code =
    let leaving : Doing = λ m. leave i h ∷ [] in
    then_fits (contexts_close i) (signal_goes i then fault_kept code then cascade i then stops_running i then leaving) (contexts_fit i)
    (then_fits (signal_goes i) (fault_kept code then cascade i then stops_running i then leaving) (signal_fits i)
    (then_fits (fault_kept code) (cascade i then stops_running i then leaving) (fault_fits code)
    (then_fits (cascade i) (stops_running i then leaving) (cascade_fits i)
    (then_fits (stops_running i) leaving (running_fits i) (leave_fits i h)))))

-- a task is registered
abbrev pub Registered : ℕ → Model → Type 0
Registered i m = (t : Task) × (task_at i m ≡ Some t)

-- a registered task stays, where none leaves
move_stays : (i : ℕ) (a : Move) (m : Model) → Stays a → Registered i m → Registered i (move a m)
move_stays i (moved.wake j c) m s r = r
move_stays i (register j label node) m s r = (r.0, find_push_old id_of i m.registry.tasks (new_task j label (Some node)) r.0 r.1)
move_stays i (arm a) m s r = r
move_stays i (mark j) m s r = (_, find_change_some id_of marked (λ _. refl) j i m.registry.tasks r.0 r.1)
move_stays i (pend j) m s r = (_, find_change_some id_of pended (λ _. refl) j i m.registry.tasks r.0 r.1)
move_stays i (leave j h) m s r = absurd s
move_stays i (grow g) m s r = r
move_stays i (quiet q) m s r = r

moves_stay : (i : ℕ) (l : List Move) (m : Model) → Milds l m → Registered i m → Registered i (moves l m)
unfolding Milds
moves_stay i [] m f r = r
moves_stay i (a ∷ l) m f r = moves_stay i l (move a m) f.1 (move_stays i a m f.0.1 r)

-- a registered task stays through calls
pub apply_stays : (i : ℕ) (cs : List Call) (m : Model) → Registered i m → Registered i (apply cs m)
apply_stays i [] m r = r
apply_stays i (c ∷ cs) m r = apply_stays i cs (after c m) (moves_stay i (doings c m) m (doings_mild c m) r)

-- acts and then others
pub path_append : {m n o : Model} {g h : List Act} → Path m g n → Path n h o → Path m (g ++ h) o
path_append here q = q
path_append (next d p) q = next d (path_append p q)

-- moves that fit are acts, one after another
pub moves_path : (l : List Move) (m : Model) → Fit l m → Path m (map did l) (moves l m)
unfolding Fit
moves_path [] m f = here
moves_path (a ∷ l) m f = next (story.moves a f.0) (moves_path l (move a m) f.1)

-- a step is acts, one after another
pub step_path : {m n : Model} {g : List Act} → Step m g n → Path m g n
step_path (task_dealt t b ids d e) = next (story.polls t b ids d e) here
step_path (id_skipped i ids d e) = next (story.skips i ids d e) here
step_path (body_called t c) = next (story.calls t c) here
step_path {m} (body_asks c) = moves_path (doings c m) m (doings_fit c m)
step_path {m} (task_ends i t h code e z) = moves_path (ending_of i h code m) m (ending_fits i h code m)
step_path (body_pends i t e z) = next (story.moves (pend i) tt) here

-- steps are acts, one after another
pub steps_path : {m n : Model} {g : List Act} → Steps m g n → Path m g n
steps_path still = here
steps_path (onward s more) = path_append (step_path s) (steps_path more)

-- steps and then others
pub steps_append : {m n o : Model} {g h : List Act} → Steps m g n → Steps n h o → Steps m (g ++ h) o
steps_append still q = q
steps_append {o = o} {h = h} (onward {m = m} {acts = a} {more = g} s p) q =
    subst (λ (l : List Act). Steps m l o) (sym (append_assoc a g h)) (onward s (steps_append p q))

-- a step by itself
pub one_step : {m n : Model} {g : List Act} → Step m g n → Steps m g n
one_step {m} {n} {g} s = subst (λ (l : List Act). Steps m l n) (append-nil g) (onward s still)

-- calls are steps
pub calls_steps : (cs : List Call) (m : Model) → Steps m (map did (doings_of cs m)) (apply cs m)
calls_steps [] m = still
calls_steps (c ∷ cs) m =
    subst (λ (l : List Act). Steps m l (apply cs (after c m))) (sym (map-append did (doings c m) (doings_of cs (after c m))))
    (onward (body_asks c) (calls_steps cs (after c m)))

-- steps whose acts are these moves
abbrev pub By : Model → List Move → Type 0
By m l = Steps m (map did l) (moves l m)

-- a registered task is marked or not as it is told
marked_is : (i : ℕ) (m : Model) (t : Task) → task_at i m ≡ Some t → is_marked i m ≡ t.marked
marked_is i m t e = ap (λ (o : Option Task). given o false (λ x. x.marked)) e

above_none : (i : ℕ) → (i ≡ 0 → ⊥) → 0 < i
above_none i n = omega (arith, n)

-- what follows the call of a body of a task other than the root
other_steps : (i : ℕ) (o : Outcome) (m : Model) → 0 < i → Registered i m → By m (settling i o m)
other_steps i outcome.Pending m z r =
    let is = marked_is i m r.0 r.1 in
    cond_both (is_marked i m) _ _ (By m)
    (λ q. one_step (task_ends i r.0 ending.Aborted None r.1 (λ _. z)))
    (λ q. one_step (body_pends i r.0 r.1 (λ _. sym is ∙ q)))
other_steps i (outcome.Done value) m z r = one_step (task_ends i r.0 ending.Returned None r.1 (λ _. z))
other_steps i (outcome.Fault code) m z r = one_step (task_ends i r.0 ending.Faulted (Some code) r.1 (λ _. z))

-- what follows the call of the root's body
root_steps : (o : Outcome) (m : Model) → Registered 0 m → By m (settling_root o m)
root_steps outcome.Pending m r = one_step (body_pends 0 r.0 r.1 (λ z. absurd (omega arith)))
root_steps (outcome.Done value) m r = still
root_steps (outcome.Fault code) m r = still

-- what follows the call of a body
pub settle_steps : (i : ℕ) (o : Outcome) (m : Model) → Registered i m → By m (settle i o m)
settle_steps i o m r = cond_both (eqb i 0) _ _ (By m)
    (λ z. root_steps o m (subst (λ (j : ℕ). Registered j m) (eqb-true i 0 z) r))
    (λ z. other_steps i o m (above_none i (eqb-false i 0 z)) r)

-- a body's turn is steps
pub turn_steps : {V : Type 0} (i : ℕ) (t : Turn V) (m : Model) → Registered i m → Steps m (turn_acts i t m) (turned_to i t m)
turn_steps i t m r = steps_append (calls_steps t.calls m) (settle_steps i t.outcome (apply t.calls m) (apply_stays i t.calls m r))

module _ {V : Type 0} (rule : V → ℕ → Model → Turn V) where
  -- the deals of a round are steps
  pub deals_steps : {v : V} {m : Model} {h : List Act} {u : V} {n : Model} {f : Option Finish} → Deals rule v m h u n f → Steps m h n
  deals_steps (went.out e) = still
  deals_steps (went.short i ids e k) = still
  deals_steps (went.unknown i ids d e more) = onward (id_skipped i ids d e) (deals_steps more)
  deals_steps (went.aborted t ids d e q more) =
      onward (task_dealt t false ids d e) (onward (task_ends t.id t ending.Aborted None e (λ z. cc)) (deals_steps more))
  deals_steps {m = m} (went.kept t code ids d e q k) =
      let is : t.id ≡ 0 = find_key id_of 0 m.registry.tasks t e in
      let at_root : Dealt t.id ids m = record { room = d.room; first = d.first ∙ ap (λ (j : ℕ). j ∷ ids) (sym is) } in
      one_step (task_dealt t false ids at_root (ap (λ (j : ℕ). task_at j m) is ∙ e))
  deals_steps {v = v} {m = m} (went.body t ids d c e more) =
      onward (task_dealt t true ids d c.registered)
      (onward (body_called t (record { registered = c.registered; unmarked = c.unmarked; faultless = c.faultless }))
      (steps_append (turn_steps t.id (turn_at rule v t ids m) (at_call rule t ids m) (t, c.registered)) (deals_steps more)))
  deals_steps {v = v} {m = m} (went.last t ids d c e) =
      onward (task_dealt t true ids d c.registered)
      (onward (body_called t (record { registered = c.registered; unmarked = c.unmarked; faultless = c.faultless }))
      (turn_steps t.id (turn_at rule v t ids m) (at_call rule t ids m) (t, c.registered)))

  -- where the run goes on after the deals, all that was drained is dealt
  pub deals_out : {v : V} {m : Model} {h : List Act} {u : V} {n : Model} → Deals rule v m h u n None → n.queues.drained ≡ []
  deals_out (went.out e) = e
  deals_out (went.unknown i ids d e more) = deals_out more
  deals_out (went.aborted t ids d e q more) = deals_out more
  deals_out (went.body t ids d c e more) = deals_out more

  module _ {W : Type 0} (arrange : W → (ids : List ℕ) → Order W ℕ ids) where
    -- a round of a run is a round of a story
    plays_played : {v : V} {w : W} {m : Model} {r : Round} {u : V} {x : W} {n : Model} {f : Option Finish} → Plays rule arrange v w m r u x n f → Played m r n f
    plays_played {w = w} {m = m} (went.ends {f = f} d) = record { same = (asked arrange w m.queues.waiting).same; closing = _; steps = deals_steps d; closed = story.before f }
    plays_played {w = w} {m = m} (went.short d k) = record { same = (asked arrange w m.queues.waiting).same; closing = _; steps = deals_steps d; closed = story.before ledger_spent }
    plays_played {w = w} {m = m} (went.past_end d k l) = record { same = (asked arrange w m.queues.waiting).same; closing = _; steps = deals_steps d; closed = story.before clock_spent }
    plays_played {w = w} {m = m} (went.timeout d k j x) = record { same = (asked arrange w m.queues.waiting).same; closing = _; steps = deals_steps d; closed = story.timeout (deals_out d) j }
    plays_played {w = w} {m = m} (went.stalls d k j x z) = record { same = (asked arrange w m.queues.waiting).same; closing = _; steps = deals_steps d; closed = story.stalls (deals_out d) j z }
    plays_played {w = w} {m = m} (went.completes d k j x z) = record { same = (asked arrange w m.queues.waiting).same; closing = _; steps = deals_steps d; closed = story.completes (deals_out d) j z }

    -- a run is a story
    pub went_story : {v : V} {w : W} {m : Model} {rounds : List Round} {u : V} {x : W} {n : Model} {f : Finish} → Went rule arrange v w m rounds u x n f → Story m rounds n f
    went_story (went.shut e) = story.shut
    went_story (went.over e p) = story.over (plays_played p)
    went_story (went.on e p more) = story.on (plays_played p) (went_story more)
