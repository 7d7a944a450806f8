-- What the steps of a task's end come to, over plain executors.
use Rattle.std.proofs.Common.{◌≡◌, ℕ, ◌+◌, ◌≤◌, Bool, true, false, cond, not, ◌&&◌, List, [], ◌∷◌, Some, None, Option, sym, refl, ap, ◌∙◌, arith}
use Rattle.std.specs.Option.{is_none}
use Rattle.keyed.specs.Choices.{given, whether}
use Rattle.entry.specs.declared.Entry.TheVariants as entry
use Rattle.reasons.specs.declared.cause.Cause.TheVariants as cause
use Rattle.reasons.specs.declared.ending.Ending.{Ending}
use Rattle.lineage.specs.Family.{Family}
use Rattle.lineage.specs.Cascade.{cascaded}
use Rattle.supervision.specs.Calls.{left}
use Rattle.signal.specs.Model.{Stops, ended, completion_wakes}
use Rattle.deterministic.specs.Model.{Task, Registry, Faults, Model, with_registry, with_tree, with_stop, with_faults, noted, queued, task_at, without_task}
use Rattle.deterministic.specs.Moves as moved
use Rattle.deterministic.specs.Moves.{Move, move, moves, wakes, quiet, keep, faults_after, Doing, ◌then◌, after_doing}
use Rattle.deterministic.specs.Ending.{signal_goes, fault_kept, fault_stays, others, markings, cascading, cascade, cascade_of, contexts_close, stops_running, ending_of}
use Rattle.deterministic.specs.Bounds.{unmarked}
use Rattle.deterministic.proofs.Doings.{after_then}
use Rattle.bounds.proofs.Ends.{markings_tree}
use Rattle.dispatch.specs.declared.Dispatcher.{Dispatcher}
use Rattle.dispatch.specs.Seen.{seen, Leads, free_entries, waiting_ids, unmarked_tasks}
use Rattle.state.specs.Faults.{keeps, with_fault}
use Rattle.ending.specs.Spent.{SpendsAtMost}

-- what the cascade meets: at most so much is spent, and as many tasks are not marked as before
pub record BeforeCascade (d e : Dispatcher) : Type 0 where
  pub left : free_entries d ≤ free_entries e + 65
  pub waiting : waiting_ids e ≤ waiting_ids d + 65
  pub marks : unmarked_tasks e ≡ unmarked_tasks d

pub before_cascade : (d e f g : Dispatcher) → SpendsAtMost d e 0 → SpendsAtMost e f 64 → SpendsAtMost f g 1 → BeforeCascade d g
before_cascade d e f g closes signals faults = record {
  left = omega (arith, closes.left, signals.left, faults.left);
  waiting = omega (arith, closes.waiting, signals.waiting, faults.waiting);
  marks = ap (λ (r : Registry). unmarked r.tasks) (faults.registry ∙ signals.registry ∙ closes.registry);
}

-- a signal goes: the stop signal is so, and these ids are queued
pub goes : (d e : Dispatcher) (i : ℕ) (m : Model) (S : Stops) (ids : List ℕ) → Leads d e (moves (wakes cause.Stop ids)) → S ≡ ended i m.stop → ids ≡ completion_wakes m.stop S →
    seen e m.counts (with_stop S m) ≡ after_doing (signal_goes i) (seen d m.counts m)
goes d e i m S ids wake stops whom =
    let all : ids ≡ completion_wakes m.stop (ended i m.stop) = whom ∙ ap (completion_wakes m.stop) stops in
    wake m.counts (with_stop S m) ∙ (λ j. moves (wakes cause.Stop (all j)) (seen d m.counts (with_stop (stops j) m)))

-- faults that keep one are not caught, and none was kept before
keeps_first : (f : Faults) → keeps f ≡ true → (f.caught ≡ false) × (f.kept ≡ None)
keeps_first f first = go f.caught f.kept first where
  go : (caught : Bool) (kept : Option ℕ) → (not caught && is_none kept) ≡ true → (caught ≡ false) × (kept ≡ None)
  go false None e = (refl, refl)
  go false (Some x) e = cc
  go true kept e = cc

-- the first fault that is not caught is kept, and wakes the root
pub stays : (o : Option ℕ) (code : ℕ) (m n : Model) (f : Faults) (b : Bool) → o ≡ Some code → b ≡ true → b ≡ keeps m.faults → f ≡ with_fault code m.faults →
    n ≡ queued 0 (entry.Wake 0 cause.Fault) (with_faults f m) → n ≡ after_doing (fault_kept o) m
stays o code m n f b by does_keep answer now is =
    let first = sym answer ∙ does_keep in
    let before = keeps_first m.faults first in
    let kept : f ≡ faults_after (keep code) m.faults = now ∙ ap (λ (x : Bool). cond x (faults_after (keep code) m.faults) m.faults) first in
    let does : List Move = quiet (keep code) ∷ moved.wake 0 cause.Fault ∷ [] in
    is ∙ (λ j. queued 0 (entry.Wake 0 cause.Fault) (with_faults (kept j) m))
    ∙ sym (ap (λ (x : Option ℕ). moves (given x [] (λ c. fault_stays c m)) m) by ∙ ap (λ (x : Bool). moves (cond x [] (whether m.faults.kept does [])) m) before.0 ∙ ap (λ (x : Option ℕ). moves (whether x does []) m) before.1)

-- what is below a node is aborted, and the tasks there are marked
pub cascades : (i node : ℕ) (t : Task) (m n : Model) (F : Family) (ids : List ℕ) → Some t ≡ task_at i m → t.node ≡ Some node → F ≡ (cascaded node m.tree).0 → ids ≡ (cascaded node m.tree).1 →
    n ≡ after_doing (markings (others i ids)) (with_tree F m) → n ≡ after_doing (cascade i) m
cascades i node t m n F ids found at fallen whom is =
    let G : Family = (cascaded node m.tree).0 in
    let js : List ℕ = others i (cascaded node m.tree).1 in
    is ∙ (λ j. after_doing (markings (others i (whom j))) (with_tree (fallen j) m))
    ∙ ap (λ (l : List Move). moves l (with_tree G m)) (markings_tree G js m)
    ∙ sym (ap (λ (o : Option Task). moves (given o [] (λ x. cascade_of i x m)) m) (sym found) ∙ ap (λ (o : Option ℕ). moves (given o [] (λ x. cascading i x m)) m) at)

-- a task leaves
pub leaves : (i : ℕ) (h : Ending) (m n : Model) (r : Registry) (F : Family) → r ≡ without_task i m.registry → F ≡ left i m.tree → n ≡ noted (entry.Done i h) (with_tree F (with_registry r m)) → n ≡ move (moved.leave i h) m
leaves i h m n r F gone away is = is ∙ (λ j. noted (entry.Done i h) (with_tree (away j) (with_registry (gone j) m)))

-- the steps one after another are the end of the task
pub whole : (i : ℕ) (h : Ending) (code : Option ℕ) (m m₁ m₂ m₃ m₄ m₅ n : Model) → m₁ ≡ after_doing (contexts_close i) m → m₂ ≡ after_doing (signal_goes i) m₁ → m₃ ≡ after_doing (fault_kept code) m₂ → m₄ ≡ after_doing (cascade i) m₃ →
    m₅ ≡ after_doing (stops_running i) m₄ → n ≡ move (moved.leave i h) m₅ → n ≡ after_doing (ending_of i h code) m
whole i h code m m₁ m₂ m₃ m₄ m₅ n closes signals faults falls stops leaves-at-last =
    let f₆ : Doing = λ x. moved.leave i h ∷ [] in
    let f₅ : Doing = stops_running i then f₆ in
    let f₄ : Doing = cascade i then f₅ in
    let f₃ : Doing = fault_kept code then f₄ in
    let f₂ : Doing = signal_goes i then f₃ in
    leaves-at-last ∙ ap (move (moved.leave i h)) stops ∙ sym (after_then (stops_running i) f₆ m₄)
    ∙ ap (after_doing f₅) falls ∙ sym (after_then (cascade i) f₅ m₃)
    ∙ ap (after_doing f₄) faults ∙ sym (after_then (fault_kept code) f₄ m₂)
    ∙ ap (after_doing f₃) signals ∙ sym (after_then (signal_goes i) f₃ m₁)
    ∙ ap (after_doing f₂) closes ∙ sym (after_then (contexts_close i) f₂ m)
