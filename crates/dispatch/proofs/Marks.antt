-- Tasks that are marked, one and one after another.
use Rattle.std.proofs.Common.{◌≡◌, ℕ, ◌+◌, ◌-◌, ◌<◌, ◌≤◌, Bool, true, false, cond, not, List, [], ◌∷◌, length, get_or, drop, sym, refl, ap, ◌∙◌}
use Rattle.std.proofs.lemmas.List.{at_drop_more, at_drop_all}
use Rattle.std.proofs.lemmas.Bool.{ne_eqb, eq-eqb}
use Rattle.ledger.specs.Book.{Book}
use Rattle.entry.specs.declared.Entry.TheVariants as entry
use Rattle.reasons.specs.declared.cause.Cause.TheVariants as cause
use Rattle.deterministic.specs.declared.counts.Counts.{Counts}
use Rattle.deterministic.specs.Model.{Task, Queues, Registry, Model, noted, queued, with_changed, marked, one_not_running}
use Rattle.deterministic.specs.Moves.{moves, after_doing}
use Rattle.deterministic.specs.Calls.{marking_task, marking}
use Rattle.deterministic.specs.Ending.{markings, others}
use Rattle.deterministic.proofs.Doings.{after_then}
use Rattle.dispatch.specs.Seen.{with_parts}

-- the counts with as many running
abbrev pub with_running : ℕ → Counts → Counts
with_running n c = record { iterations = c.iterations; spawned = c.spawned; running = n; polls = c.polls }

module _ (q : Queues) (r s : Registry) (c : Counts) (n : ℕ) (b : Book) (m : Model) (t : Task) (new : t.marked ≡ false) (changed : s ≡ with_changed marked t.id r) (fewer : n ≡ c.running - 1) where
  -- the executor whose task is marked, before anything is written
  struck : with_parts q s (with_running n c) b m ≡ with_parts q (with_changed marked t.id r) (one_not_running c) b m
  struck = λ i. with_parts q (changed i) (with_running (fewer i) c) b m

  -- a task that has not pended is marked, and that is all
  pub mark_alone : (o : Model) → t.pended ≡ false → o ≡ noted (entry.Mark t.id) (with_parts q s (with_running n c) b m) → o ≡ moves (marking_task t) (with_parts q r c b m)
  mark_alone o never is = rw (new, never) (is ∙ ap (noted (entry.Mark t.id)) struck)

  -- a task that has pended is also woken
  pub mark_woken : (o p : Model) → t.pended ≡ true → o ≡ noted (entry.Mark t.id) (with_parts q s (with_running n c) b m) → p ≡ queued t.id (entry.Wake t.id cause.Abort) o →
      p ≡ moves (marking_task t) (with_parts q r c b m)
  mark_woken o p before is then_is = rw (new, before) (then_is ∙ ap (queued t.id (entry.Wake t.id cause.Abort)) (is ∙ ap (noted (entry.Mark t.id)) struck))

-- one after another, a mark and then the others
after_markings : (i : ℕ) (ids : List ℕ) (m : Model) → after_doing (markings (i ∷ ids)) m ≡ after_doing (markings ids) (after_doing (marking i) m)
unfolding markings
after_markings i ids m = after_then (marking i) (markings ids) m

-- no mark leaves the executor as it is
after_no_markings : (m : Model) → after_doing (markings []) m ≡ m
unfolding markings
after_no_markings m = refl

module _ (spared : ℕ) (ids : List ℕ) (i : ℕ) where
  -- where the marks that are left lead
  abbrev left_to : List ℕ → Model → Model
  left_to l m = after_doing (markings (others spared l)) m

  -- the id at i is spared
  pub markings_spared : (d : ℕ) (m : Model) → i < length ids → get_or ids i d ≡ spared → left_to (drop (i + 1) ids) m ≡ left_to (drop i ids) m
  markings_spared d m within is =
      sym (at_drop_more (λ (l : List ℕ). left_to l m) ids i d within ∙ ap (λ (b : Bool). after_doing (markings (cond (not b) (get_or ids i d ∷ others spared (drop (i + 1) ids)) (others spared (drop (i + 1) ids)))) m) (eq-eqb (get_or ids i d) spared is))

  -- the id at i is marked
  pub markings_more : (d : ℕ) (m n : Model) → i < length ids → (get_or ids i d ≡ spared → ⊥) → n ≡ after_doing (marking (get_or ids i d)) m → left_to (drop (i + 1) ids) n ≡ left_to (drop i ids) m
  markings_more d m n within apart is =
      let x = get_or ids i d in
      let more = others spared (drop (i + 1) ids) in
      let here : left_to (drop i ids) m ≡ after_doing (markings (x ∷ more)) m =
      at_drop_more (λ (l : List ℕ). left_to l m) ids i d within ∙ ap (λ (b : Bool). after_doing (markings (cond (not b) (x ∷ more) more)) m) (ne_eqb x spared apart) in
      ap (after_doing (markings more)) is ∙ sym (here ∙ after_markings x more m)

  -- none is left
  pub markings_all : (m : Model) → length ids ≤ i → m ≡ left_to (drop i ids) m
  markings_all m past = sym (at_drop_all (λ (l : List ℕ). left_to l m) ids i past ∙ after_no_markings m)
