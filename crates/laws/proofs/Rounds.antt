-- What each round deals, queues and writes: each queuing is dealt in the next round, and the ledger tells all of it.
use Rattle.std.proofs.Common.{◌≡◌, ℕ, ◌+◌, cond, eqb, List, [], ◌∷◌, ◌++◌, length, None, sum_by, Option, sym, refl, ap, ◌∙◌, subst, append_assoc, append-nil, arith}
use Rattle.std.specs.List.Sorted.{IsPermutation}
use Rattle.std.proofs.lemmas.List.Sums.{sum_by-cons}
use Rattle.std.proofs.lemmas.List.Sorted.{sum_by-IsPermutation}
use Rattle.keyed.specs.Members.{times}
use Rattle.keyed.proofs.Counts.{times_append}
use Rattle.entry.specs.declared.Entry.{Entry}
use Rattle.entry.specs.declared.Entry.TheVariants as entry
use Rattle.deterministic.specs.Model.{Model}
use Rattle.deterministic.specs.Run.{Finish, end_of}
use Rattle.deterministic.specs.Acts.{writing, all_of}
use Rattle.deterministic.specs.History.{Round, rung, dealt, queued, over, NextRound, complete_by, round_entries, close_entries}
use Rattle.laws.specs.Story as story
use Rattle.laws.specs.Story.{Played, Story}
use Rattle.laws.specs.Queuing.{entries_of}
use Rattle.laws.proofs.Story.{steps_path}
use Rattle.laws.proofs.Traces.{path_queues, path_deals, path_writes, path_rounds, tasks_of, closed_queues, closed_deals, closed_writes, closed_rounds, closed_out}

module _ {m : Model} {r : Round} {n : Model} {f : Option Finish} (p : Played m r n f) where
  -- what a round drains is dealt in it, first to last, or stays drained
  pub played_deals : r.drained ≡ dealt r ++ n.queues.drained
  played_deals = path_deals (steps_path p.steps) ∙ ap (λ (l : List ℕ). dealt r ++ l) (sym (closed_deals p.closed))

  -- what waits after a round was queued in it
  pub played_queues : n.queues.waiting ≡ queued r
  played_queues = closed_queues p.closed ∙ ap (λ (l : List ℕ). l ++ tasks_of (rung r)) (path_queues (steps_path p.steps))

  -- a round writes its entries
  pub played_writes : n.ledger.log ≡ m.ledger.log ++ round_entries r
  played_writes =
      closed_writes p.closed ∙ ap (λ (l : List Entry). l ++ close_entries r.close) (path_writes (steps_path p.steps))
      ∙ append_assoc (m.ledger.log ++ entry.Round (length r.drained) ∷ []) (all_of writing r.acts) (close_entries r.close)
      ∙ append_assoc m.ledger.log (entry.Round (length r.drained) ∷ []) (all_of writing r.acts ++ close_entries r.close)

  -- a round that is complete is counted
  pub played_rounds : n.counts.iterations ≡ m.counts.iterations + complete_by (queued r) r.close
  played_rounds =
      closed_rounds p.closed ∙ ap (λ (k : ℕ). k + complete_by n.queues.waiting r.close) (path_rounds (steps_path p.steps))
      ∙ ap (λ (l : List ℕ). m.counts.iterations + complete_by l r.close) played_queues

-- where the run goes on, nothing is drained
pub played_out : {m : Model} {r : Round} {n : Model} → Played m r n None → n.queues.drained ≡ []
played_out p = closed_deals p.closed ∙ closed_out p.closed

-- QUEUING
times_sum : (i : ℕ) (xs : List ℕ) → times i xs ≡ sum_by (λ j. cond (eqb j i) 1 0) xs
times_sum i [] = refl
times_sum i (x ∷ xs) = ap (λ n. cond (eqb x i) 1 0 + n) (times_sum i xs) ∙ sym (sum_by-cons (λ j. cond (eqb j i) 1 0) x xs)

-- exchanges of places keep how often an id stands
times_shuffled : (i : ℕ) (xs ys : List ℕ) → IsPermutation xs ys → times i ys ≡ times i xs
times_shuffled i xs ys s = times_sum i ys ∙ sum_by-IsPermutation (λ j. cond (eqb j i) 1 0) xs ys s ∙ sym (times_sum i xs)

-- what waited is dealt as often as it was queued, or stays drained
played_times : {m : Model} {r : Round} {n : Model} {f : Option Finish} → Played m r n f → (i : ℕ) → times i (dealt r) + times i n.queues.drained ≡ times i m.queues.waiting
played_times {m} {r} {n} p i =
    sym (times_append i (dealt r) n.queues.drained) ∙ ap (times i) (sym (played_deals p)) ∙ times_shuffled i m.queues.waiting r.drained p.same

-- where the run goes on, all of it is dealt
played_all : {m : Model} {r : Round} {n : Model} → Played m r n None → (i : ℕ) → times i (dealt r) ≡ times i m.queues.waiting
played_all p i = omega (arith, played_times p i, ap (times i) (played_out p))

-- each queuing is dealt in the next round
pub next_round : {m : Model} {rounds : List Round} {o : Model} {f : Finish} → Story m rounds o f → m.queues.drained ≡ [] → (i : ℕ) → NextRound i (times i m.queues.waiting) rounds o.queues
unfolding NextRound
next_round story.shut z i = (refl, ap (times i) z)
next_round (story.over p) z i = (played_times p i, ap (times i) (played_queues p))
next_round (story.on p story.shut) z i = (played_times p i, ap (times i) (played_queues p))
next_round (story.on {o = o} {r = r} p (story.over {r = k} q)) z i =
    (played_all p i, subst (λ (x : ℕ). NextRound i x (k ∷ []) o.queues) (ap (times i) (played_queues p)) (next_round (story.over q) (played_out p) i))
next_round (story.on {o = o} {r = r} p (story.on {r = k} {more = more} q s)) z i =
    (played_all p i, subst (λ (x : ℕ). NextRound i x (k ∷ more) o.queues) (ap (times i) (played_queues p)) (next_round (story.on q s) (played_out p) i))

-- THE LEDGER
pub log_is : {m : Model} {rounds : List Round} {o : Model} {f : Finish} → Story m rounds o f → o.ledger.log ≡ m.ledger.log ++ (entries_of rounds ++ entry.End (end_of f) ∷ [])
unfolding over
log_is story.shut = refl
log_is {m} (story.over {r = r} {f = f} p) =
    ap (λ (l : List Entry). l ++ entry.End (end_of f) ∷ []) (played_writes p) ∙ append_assoc m.ledger.log (round_entries r) (entry.End (end_of f) ∷ [])
    ∙ ap (λ (l : List Entry). m.ledger.log ++ (l ++ entry.End (end_of f) ∷ [])) (sym (append-nil (round_entries r)))
log_is {m} {f = f} (story.on {r = r} {more = more} p s) =
    log_is s ∙ ap (λ (l : List Entry). l ++ (entries_of more ++ entry.End (end_of f) ∷ [])) (played_writes p)
    ∙ append_assoc m.ledger.log (round_entries r) (entries_of more ++ entry.End (end_of f) ∷ [])
    ∙ ap (λ (l : List Entry). m.ledger.log ++ l) (sym (append_assoc (round_entries r) (entries_of more) (entry.End (end_of f) ∷ [])))
