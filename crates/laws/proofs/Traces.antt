-- What acts, rings and closes leave in the queues, in the ledger and in the count of completed rounds.
use Rattle.std.proofs.Common.{◌≡◌, ℕ, ◌+◌, ◌<◌, cond, eqb, List, [], ◌∷◌, ◌++◌, map, length, Some, None, Option, sym, refl, ap, ◌∙◌, append_assoc, append-nil, arith, eqb-true}
use Rattle.std.proofs.lemmas.Bool.{cond_both}
use Rattle.entry.specs.declared.Entry.{Entry}
use Rattle.entry.specs.declared.Entry.TheVariants as entry
use Rattle.alarms.specs.declared.Alarm.{Alarm}
use Rattle.alarms.specs.Laws.{due}
use Rattle.deterministic.specs.Model as model
use Rattle.deterministic.specs.Model.{Model, Queues}
use Rattle.deterministic.specs.declared.counts.Counts.{Counts}
use Rattle.deterministic.specs.Moves.{Move, wake, register, arm, mark, pend, leave, grow, quiet, grant, tally, audit, signals, keep, move}
use Rattle.deterministic.specs.Run.{Finish, ringing, rung, ticked}
use Rattle.deterministic.specs.Acts.{Act, queued_by, written_by, queuing, dealing, writing, all_of}
use Rattle.deterministic.specs.History.{Close, rung_in, complete_by, jump_entries, ring_entry, close_entries}
use Rattle.deterministic.specs.Went.{jumped_to}
use Rattle.laws.specs.Story as story
use Rattle.laws.specs.Story.{Fits, Did, Path, here, next, Closed, rings_of}

-- a move queues at the end of those waiting
move_queues : (a : Move) (m : Model) → (move a m).queues.waiting ≡ m.queues.waiting ++ queued_by a
move_queues (wake i c) m = refl
move_queues (register i label node) m = refl
move_queues (arm a) m = sym (append-nil _)
move_queues (mark i) m = sym (append-nil _)
move_queues (pend i) m = sym (append-nil _)
move_queues (leave i h) m = sym (append-nil _)
move_queues (grow g) m = sym (append-nil _)
move_queues (quiet q) m = sym (append-nil _)

-- a move deals nothing
move_deals : (a : Move) (m : Model) → (move a m).queues.drained ≡ m.queues.drained
move_deals (wake i c) m = refl
move_deals (register i label node) m = refl
move_deals (arm a) m = refl
move_deals (mark i) m = refl
move_deals (pend i) m = refl
move_deals (leave i h) m = refl
move_deals (grow g) m = refl
move_deals (quiet q) m = refl

-- a move writes at the end of the ledger
move_writes : (a : Move) (m : Model) → (move a m).ledger.log ≡ m.ledger.log ++ written_by a
move_writes (wake i c) m = refl
move_writes (register i label node) m = refl
move_writes (arm a) m = refl
move_writes (mark i) m = refl
move_writes (pend i) m = sym (append-nil _)
move_writes (leave i h) m = refl
move_writes (grow g) m = sym (append-nil _)
move_writes (quiet q) m = sym (append-nil _)

-- a move completes no round
move_rounds : (a : Move) (m : Model) → Fits a m → (move a m).counts.iterations ≡ m.counts.iterations
move_rounds (wake i c) m f = refl
move_rounds (register i label node) m f = refl
move_rounds (arm a) m f = refl
move_rounds (mark i) m f = refl
move_rounds (pend i) m f = refl
move_rounds (leave i h) m f = refl
move_rounds (grow g) m f = refl
move_rounds (quiet grant) m f = refl
move_rounds (quiet (tally counts)) m f = f
move_rounds (quiet (audit event)) m f = refl
move_rounds (quiet (signals new)) m f = refl
move_rounds (quiet (keep code)) m f = refl

-- an act queues at the end of those waiting
pub act_queues : {m n : Model} {a : Act} → Did m a n → n.queues.waiting ≡ m.queues.waiting ++ queuing a
act_queues {m} (story.moves a f) = move_queues a m
act_queues (story.polls t b ids d e) = sym (append-nil _)
act_queues (story.skips i ids d e) = sym (append-nil _)
act_queues (story.calls t c) = sym (append-nil _)

-- an act deals from the front of those drained
pub act_deals : {m n : Model} {a : Act} → Did m a n → m.queues.drained ≡ dealing a ++ n.queues.drained
act_deals {m} (story.moves a f) = sym (move_deals a m)
act_deals (story.polls t b ids d e) = d.first
act_deals (story.skips i ids d e) = d.first
act_deals (story.calls t c) = refl

-- an act writes at the end of the ledger
pub act_writes : {m n : Model} {a : Act} → Did m a n → n.ledger.log ≡ m.ledger.log ++ writing a
act_writes {m} (story.moves a f) = move_writes a m
act_writes (story.polls t b ids d e) = refl
act_writes (story.skips i ids d e) = refl
act_writes (story.calls t c) = sym (append-nil _)

-- an act completes no round
act_rounds : {m n : Model} {a : Act} → Did m a n → n.counts.iterations ≡ m.counts.iterations
act_rounds {m} (story.moves a f) = move_rounds a m f
act_rounds (story.polls t b ids d e) = refl
act_rounds (story.skips i ids d e) = refl
act_rounds (story.calls t c) = refl

-- acts queue one after another
pub path_queues : {m n : Model} {h : List Act} → Path m h n → n.queues.waiting ≡ m.queues.waiting ++ all_of queuing h
unfolding all_of
path_queues here = sym (append-nil _)
path_queues {m} (next {a = a} {more = more} d p) =
    path_queues p ∙ ap (λ (l : List ℕ). l ++ all_of queuing more) (act_queues d) ∙ append_assoc m.queues.waiting (queuing a) (all_of queuing more)

-- acts deal one after another
pub path_deals : {m n : Model} {h : List Act} → Path m h n → m.queues.drained ≡ all_of dealing h ++ n.queues.drained
unfolding all_of
path_deals here = refl
path_deals {n = n} (next {a = a} {more = more} d p) =
    act_deals d ∙ ap (λ (l : List ℕ). dealing a ++ l) (path_deals p) ∙ sym (append_assoc (dealing a) (all_of dealing more) n.queues.drained)

-- acts write one after another
pub path_writes : {m n : Model} {h : List Act} → Path m h n → n.ledger.log ≡ m.ledger.log ++ all_of writing h
unfolding all_of
path_writes here = sym (append-nil _)
path_writes {m} (next {a = a} {more = more} d p) =
    path_writes p ∙ ap (λ (l : List Entry). l ++ all_of writing more) (act_writes d) ∙ append_assoc m.ledger.log (writing a) (all_of writing more)

-- acts complete no round
pub path_rounds : {m n : Model} {h : List Act} → Path m h n → n.counts.iterations ≡ m.counts.iterations
path_rounds here = refl
path_rounds (next d p) = path_rounds p ∙ act_rounds d

-- the tasks for which alarms stand
abbrev pub tasks_of : List Alarm → List ℕ
tasks_of l = map (λ (a : Alarm). a.task) l

-- the executor after one ring
abbrev once : Alarm → Model → Model
once a m = model.queued a.task (ring_entry a) m

-- rings queue their tasks, one after another
pub ringing_queues : (l : List Alarm) (m : Model) → (ringing l m).queues.waiting ≡ m.queues.waiting ++ tasks_of l
unfolding ringing
ringing_queues [] m = sym (append-nil _)
ringing_queues (a ∷ l) m = ringing_queues l (once a m) ∙ append_assoc m.queues.waiting (a.task ∷ []) (tasks_of l)

-- rings deal nothing
pub ringing_deals : (l : List Alarm) (m : Model) → (ringing l m).queues.drained ≡ m.queues.drained
unfolding ringing
ringing_deals [] m = refl
ringing_deals (a ∷ l) m = ringing_deals l (once a m)

-- rings are written, one after another
pub ringing_writes : (l : List Alarm) (m : Model) → (ringing l m).ledger.log ≡ m.ledger.log ++ map ring_entry l
unfolding ringing
ringing_writes [] m = sym (append-nil _)
ringing_writes (a ∷ l) m = ringing_writes l (once a m) ∙ append_assoc m.ledger.log (ring_entry a ∷ []) (map ring_entry l)

-- rings complete no round
pub ringing_rounds : (l : List Alarm) (m : Model) → (ringing l m).counts ≡ m.counts
unfolding ringing
ringing_rounds [] m = refl
ringing_rounds (a ∷ l) m = ringing_rounds l (once a m)

-- the alarms that are due
abbrev due_now : Model → List Alarm
due_now m = due m.clock.time m.alarms.alarms

rung_queues : (m : Model) → (rung m).queues.waiting ≡ m.queues.waiting ++ tasks_of (due_now m)
rung_queues m = ringing_queues (due_now m) _

rung_deals : (m : Model) → (rung m).queues.drained ≡ m.queues.drained
rung_deals m = ringing_deals (due_now m) _

rung_writes : (m : Model) → (rung m).ledger.log ≡ m.ledger.log ++ map ring_entry (due_now m)
rung_writes m = ringing_writes (due_now m) _

rung_rounds : (m : Model) → (rung m).counts ≡ m.counts
rung_rounds m = ringing_rounds (due_now m) _

-- what the clock's cycle and jump write
moved_writes : (j : Option ℕ) (m : Model) → (jumped_to j (ticked m)).ledger.log ≡ m.ledger.log ++ (entry.Tick (m.clock.time + m.clock.cycle) ∷ jump_entries j)
moved_writes None m = refl
moved_writes (Some t) m = append_assoc m.ledger.log (entry.Tick (m.clock.time + m.clock.cycle) ∷ []) (entry.Jump t ∷ [])

moved_queues : (j : Option ℕ) (m : Model) → (jumped_to j (ticked m)).queues ≡ m.queues
moved_queues None m = refl
moved_queues (Some t) m = refl

moved_counts : (j : Option ℕ) (m : Model) → (jumped_to j (ticked m)).counts ≡ m.counts
moved_counts None m = refl
moved_counts (Some t) m = refl

moved_due : (j : Option ℕ) (m : Model) → due_now (jumped_to j (ticked m)) ≡ rings_of j m
moved_due None m = refl
moved_due (Some t) m = refl

-- what a close that rings leaves
module _ (j : Option ℕ) (m : Model) where
  abbrev at_ring : Model
  at_ring = jumped_to j (ticked m)

  rings_queue : (rung at_ring).queues.waiting ≡ m.queues.waiting ++ tasks_of (rings_of j m)
  rings_queue = rung_queues at_ring ∙ ap (λ (q : Queues). q.waiting ++ tasks_of (due_now at_ring)) (moved_queues j m) ∙ ap (λ (l : List Alarm). m.queues.waiting ++ tasks_of l) (moved_due j m)

  rings_deal : (rung at_ring).queues.drained ≡ m.queues.drained
  rings_deal = rung_deals at_ring ∙ ap (λ (q : Queues). q.drained) (moved_queues j m)

  rings_write : (rung at_ring).ledger.log ≡ m.ledger.log ++ (entry.Tick (m.clock.time + m.clock.cycle) ∷ (jump_entries j ++ map ring_entry (rings_of j m)))
  rings_write =
      let tick : List Entry = entry.Tick (m.clock.time + m.clock.cycle) ∷ jump_entries j in
      rung_writes at_ring ∙ ap (λ (l : List Alarm). at_ring.ledger.log ++ map ring_entry l) (moved_due j m) ∙ ap (λ (l : List Entry). l ++ map ring_entry (rings_of j m)) (moved_writes j m)
      ∙ append_assoc m.ledger.log tick (map ring_entry (rings_of j m))

  rings_rounds : (rung at_ring).counts.iterations ≡ m.counts.iterations
  rings_rounds = ap (λ (c : Counts). c.iterations) (rung_rounds at_ring ∙ moved_counts j m)

-- a close queues the tasks of the alarms that ring
pub closed_queues : {m n : Model} {c : Close} {f : Option Finish} → Closed m c n f → n.queues.waiting ≡ m.queues.waiting ++ tasks_of (rung_in c)
closed_queues (story.before f) = sym (append-nil _)
closed_queues {m} (story.timeout {j = j} d k) = ap (λ (q : Queues). q.waiting) (moved_queues j m) ∙ sym (append-nil _)
closed_queues {m} (story.stalls {j = j} d k w) = rings_queue j m
closed_queues {m} (story.completes {j = j} d k w) = rings_queue j m

-- a close deals nothing
pub closed_deals : {m n : Model} {c : Close} {f : Option Finish} → Closed m c n f → n.queues.drained ≡ m.queues.drained
closed_deals (story.before f) = refl
closed_deals {m} (story.timeout {j = j} d k) = ap (λ (q : Queues). q.drained) (moved_queues j m)
closed_deals {m} (story.stalls {j = j} d k w) = rings_deal j m
closed_deals {m} (story.completes {j = j} d k w) = rings_deal j m

-- a close writes its entries
pub closed_writes : {m n : Model} {c : Close} {f : Option Finish} → Closed m c n f → n.ledger.log ≡ m.ledger.log ++ close_entries c
closed_writes (story.before f) = sym (append-nil _)
closed_writes {m} (story.timeout {j = j} d k) = moved_writes j m
closed_writes {m} (story.stalls {j = j} d k w) = rings_write j m
closed_writes {m} (story.completes {j = j} d k w) = rings_write j m

-- 1 where something waits
abbrev waits : List ℕ → ℕ
waits l = cond (eqb (length l) 0) 0 1

some_one : (l : List ℕ) → 0 < length l → waits l ≡ 1
some_one l h = cond_both (eqb (length l) 0) 0 1 (λ n. n ≡ 1) (λ e. absurd (omega (arith, eqb-true (length l) 0 e))) (λ _. refl)

-- a close counts a round that it completes
pub closed_rounds : {m n : Model} {c : Close} {f : Option Finish} → Closed m c n f → n.counts.iterations ≡ m.counts.iterations + complete_by n.queues.waiting c
closed_rounds (story.before f) = omega arith
closed_rounds {m} (story.timeout {j = j} d k) = omega (arith, ap (λ (c : Counts). c.iterations) (moved_counts j m))
closed_rounds {m} (story.stalls {j = j} d k w) = omega (arith, rings_rounds j m, ap waits w)
closed_rounds {m} (story.completes {j = j} d k w) = omega (arith, rings_rounds j m, some_one (rung (jumped_to j (ticked m))).queues.waiting w)

-- where the run goes on, all that was drained was dealt
pub closed_out : {m n : Model} {c : Close} → Closed m c n None → m.queues.drained ≡ []
closed_out (story.completes d k w) = d

-- and something waits
pub closed_some : {m n : Model} {c : Close} → Closed m c n None → 0 < length n.queues.waiting
closed_some (story.completes d k w) = w
