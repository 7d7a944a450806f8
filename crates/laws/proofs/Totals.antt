-- The totals of the ledger, the history and the queues agree.
use Rattle.std.proofs.Common.{◌≡◌, ℕ, ◌+◌, ◌<◌, ◌≤◌, cond, eqb, List, [], ◌∷◌, ◌++◌, map, length, Some, None, count_by, Option, sym, refl, ap, ◌∙◌, arith, length-append}
use Rattle.std.proofs.lemmas.Bool.{cond_both}
use lib.ListN.{length-map}
use Rattle.std.proofs.lemmas.List.Sums.{sum_by-append}
use Rattle.std.proofs.lemmas.List.Sorted.{length_permutation}
use Rattle.entry.specs.declared.Entry.{Entry}
use Rattle.entry.specs.declared.Entry.TheVariants as entry
use Rattle.ledger.specs.Kinds.{is_poll, is_skip, is_registration, is_wake, is_ring}
use Rattle.ledger.specs.Counting.{one}
use Rattle.alarms.specs.declared.Alarm.{Alarm}
use Rattle.deterministic.specs.Model.{Model}
use Rattle.deterministic.specs.Moves.{wake, register, arm, mark, pend, leave, grow, quiet}
use Rattle.deterministic.specs.Run.{Finish}
use Rattle.deterministic.specs.Acts.{Act, did, poll, skip, call, queuing, dealing, writing, all_of}
use Rattle.deterministic.specs.History.{Round, Close, never, out_of_time, rang, rung, rung_in, dealt, queued, over, complete_by, completed, jump_entries, ring_entry, round_entries, close_entries}
use Rattle.laws.specs.Story as story
use Rattle.laws.specs.Story.{Closed, Played, Story}
use Rattle.laws.specs.Queuing.{entries_of}
use Rattle.laws.proofs.Traces.{tasks_of, closed_deals, closed_some}
use Rattle.laws.proofs.Rounds.{played_deals, played_queues, played_rounds, played_out}

-- the entries by which ids are dealt
abbrev pub deals_in : List Entry → ℕ
deals_in es = count_by is_poll es + count_by is_skip es

-- the entries by which ids are queued
abbrev pub queuings_in : List Entry → ℕ
queuings_in es = count_by is_registration es + (count_by is_wake es + count_by is_ring es)

pub deals_append : (xs ys : List Entry) → deals_in (xs ++ ys) ≡ deals_in xs + deals_in ys
deals_append xs ys = omega (arith, sum_by-append (one is_poll) xs ys, sum_by-append (one is_skip) xs ys)

pub queuings_append : (xs ys : List Entry) → queuings_in (xs ++ ys) ≡ queuings_in xs + queuings_in ys
queuings_append xs ys = omega (arith, sum_by-append (one is_registration) xs ys, sum_by-append (one is_wake) xs ys, sum_by-append (one is_ring) xs ys)

-- the entry of an act counts what it deals
act_deals : (a : Act) → deals_in (writing a) ≡ length (dealing a)
act_deals (did (wake i c)) = refl
act_deals (did (register i label node)) = refl
act_deals (did (arm a)) = refl
act_deals (did (mark i)) = refl
act_deals (did (pend i)) = refl
act_deals (did (leave i h)) = refl
act_deals (did (grow g)) = refl
act_deals (did (quiet q)) = refl
act_deals (poll i b) = refl
act_deals (skip i) = refl
act_deals (call i) = refl

-- the entry of an act counts what it queues
act_queuings : (a : Act) → queuings_in (writing a) ≡ length (queuing a)
act_queuings (did (wake i c)) = refl
act_queuings (did (register i label node)) = refl
act_queuings (did (arm a)) = refl
act_queuings (did (mark i)) = refl
act_queuings (did (pend i)) = refl
act_queuings (did (leave i h)) = refl
act_queuings (did (grow g)) = refl
act_queuings (did (quiet q)) = refl
act_queuings (poll i b) = refl
act_queuings (skip i) = refl
act_queuings (call i) = refl

acts_deals : (h : List Act) → deals_in (all_of writing h) ≡ length (all_of dealing h)
unfolding all_of
acts_deals [] = refl
acts_deals (a ∷ h) = omega (arith, deals_append (writing a) (all_of writing h), act_deals a, acts_deals h, length-append (dealing a) (all_of dealing h))

acts_queuings : (h : List Act) → queuings_in (all_of writing h) ≡ length (all_of queuing h)
unfolding all_of
acts_queuings [] = refl
acts_queuings (a ∷ h) = omega (arith, queuings_append (writing a) (all_of writing h), act_queuings a, acts_queuings h, length-append (queuing a) (all_of queuing h))

-- rings deal nothing, and each queues
rings_deals : (l : List Alarm) → deals_in (map ring_entry l) ≡ 0
rings_deals [] = refl
rings_deals (a ∷ l) = omega (arith, deals_append (ring_entry a ∷ []) (map ring_entry l), rings_deals l)

rings_queuings : (l : List Alarm) → queuings_in (map ring_entry l) ≡ length l
rings_queuings [] = refl
rings_queuings (a ∷ l) = omega (arith, queuings_append (ring_entry a ∷ []) (map ring_entry l), rings_queuings l)

-- the clock's entries deal and queue nothing
clock_deals : (t : ℕ) (j : Option ℕ) → deals_in (entry.Tick t ∷ jump_entries j) ≡ 0
clock_deals t None = refl
clock_deals t (Some u) = refl

clock_queuings : (t : ℕ) (j : Option ℕ) → queuings_in (entry.Tick t ∷ jump_entries j) ≡ 0
clock_queuings t None = refl
clock_queuings t (Some u) = refl

close_deals : (c : Close) → deals_in (close_entries c) ≡ 0
close_deals never = refl
close_deals (out_of_time t j) = clock_deals t j
close_deals (rang t j l) = omega (arith, deals_append (entry.Tick t ∷ jump_entries j) (map ring_entry l), clock_deals t j, rings_deals l)

close_queuings : (c : Close) → queuings_in (close_entries c) ≡ length (rung_in c)
close_queuings never = refl
close_queuings (out_of_time t j) = clock_queuings t j
close_queuings (rang t j l) = omega (arith, queuings_append (entry.Tick t ∷ jump_entries j) (map ring_entry l), clock_queuings t j, rings_queuings l)

-- the entries of a round count what it deals
round_deals : (r : Round) → deals_in (round_entries r) ≡ length (dealt r)
round_deals r =
    let acts = all_of writing r.acts in
    omega (
      arith,
      deals_append (entry.Round (length r.drained) ∷ []) (acts ++ close_entries r.close),
      deals_append acts (close_entries r.close),
      acts_deals r.acts,
      close_deals r.close,
    )

-- the entries of a round count what it queues
round_queuings : (r : Round) → queuings_in (round_entries r) ≡ length (queued r)
round_queuings r =
    let acts = all_of writing r.acts in
    omega (
      arith,
      queuings_append (entry.Round (length r.drained) ∷ []) (acts ++ close_entries r.close),
      queuings_append acts (close_entries r.close),
      acts_queuings r.acts,
      close_queuings r.close,
      length-append (all_of queuing r.acts) (tasks_of (rung r)),
      length-map (rung r) (λ (a : Alarm). a.task),
    )

-- the entries of rounds count what they deal
pub entries_deals : (rounds : List Round) → deals_in (entries_of rounds) ≡ length (over dealt rounds)
unfolding over
entries_deals [] = refl
entries_deals (r ∷ more) =
    omega (arith, deals_append (round_entries r) (entries_of more), round_deals r, entries_deals more, length-append (dealt r) (over dealt more))

-- the entries of rounds count what they queue
pub entries_queuings : (rounds : List Round) → queuings_in (entries_of rounds) ≡ length (over queued rounds)
unfolding over
entries_queuings [] = refl
entries_queuings (r ∷ more) =
    omega (arith, queuings_append (round_entries r) (entries_of more), round_queuings r, entries_queuings more, length-append (queued r) (over queued more))

-- a round deals what waited, or it stays drained
played_lengths : {m : Model} {r : Round} {n : Model} {f : Option Finish} → Played m r n f → length (dealt r) + length n.queues.drained ≡ length m.queues.waiting
played_lengths {m} {r} {n} p =
    sym (length-append (dealt r) n.queues.drained) ∙ ap length (sym (played_deals p)) ∙ length_permutation m.queues.waiting r.drained p.same

-- what waits at first and what rounds queue is dealt, or stays in the queues
pub story_lengths : {m : Model} {rounds : List Round} {o : Model} {f : Finish} → Story m rounds o f → m.queues.drained ≡ [] →
    length (over dealt rounds) + (length o.queues.drained + length o.queues.waiting) ≡ length m.queues.waiting + length (over queued rounds)
unfolding over
story_lengths story.shut z = omega (arith, ap length z)
story_lengths (story.over {r = r} p) z =
    omega (arith, played_lengths p, ap length (played_queues p), length-append (dealt r) [], length-append (queued r) [])
story_lengths (story.on {r = r} {more = more} p s) z =
    omega (
      arith,
      played_lengths p,
      ap length (played_out p),
      ap length (played_queues p),
      story_lengths s (played_out p),
      length-append (dealt r) (over dealt more),
      length-append (queued r) (over queued more),
    )

-- completed rounds are counted
pub story_rounds : {m : Model} {rounds : List Round} {o : Model} {f : Finish} → Story m rounds o f → o.counts.iterations ≡ m.counts.iterations + completed rounds
unfolding completed
story_rounds story.shut = omega arith
story_rounds (story.over p) = omega (arith, played_rounds p)
story_rounds (story.on p s) = omega (arith, played_rounds p, story_rounds s)

at_most_one : (l : List ℕ) → cond (eqb (length l) 0) 0 1 ≤ 1
at_most_one l = cond_both (eqb (length l) 0) 0 1 (λ (n : ℕ). n ≤ 1) (λ _. omega arith) (λ _. omega arith)

-- a round that is complete has dealt all that was drained
complete_deals : {m n : Model} {c : Close} {f : Option Finish} (l : List ℕ) (k : ℕ) → Closed m c n f → (m.queues.drained ≡ [] → 1 ≤ k) → complete_by l c ≤ k
complete_deals l k (story.before f) h = omega arith
complete_deals l k (story.timeout d j) h = omega arith
complete_deals l k (story.stalls d j w) h = omega (arith, at_most_one l, h d)
complete_deals l k (story.completes d j w) h = omega (arith, at_most_one l, h d)

-- something waited, so a complete round has dealt something
played_complete : {m : Model} {r : Round} {n : Model} {f : Option Finish} → Played m r n f → 0 < length m.queues.waiting → complete_by (queued r) r.close ≤ length (dealt r)
played_complete {r = r} p h = complete_deals (queued r) (length (dealt r)) p.closed (λ d. omega (arith, h, played_lengths p, ap length (closed_deals p.closed ∙ d)))

-- each completed round deals something
pub story_complete : {m : Model} {rounds : List Round} {o : Model} {f : Finish} → Story m rounds o f → 0 < length m.queues.waiting → completed rounds ≤ length (over dealt rounds)
unfolding completed over
story_complete story.shut h = omega arith
story_complete (story.over {r = r} p) h = omega (arith, played_complete p h, length-append (dealt r) [])
story_complete (story.on {r = r} {more = more} p s) h =
    omega (arith, played_complete p h, story_complete s (closed_some p.closed), length-append (dealt r) (over dealt more))
