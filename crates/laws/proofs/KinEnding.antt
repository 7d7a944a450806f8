-- The end of a task as a whole leaves registry and tree as they were told: all that sits below its node is marked.
use Rattle.std.proofs.Common.{◌≡◌, ℕ, ◌<◌, cond, not, eqb, List, [], ◌∷◌, ◌++◌, Some, None, Option, sym, refl, ap, ◌∙◌, subst, inl, inr, append-nil}
use Rattle.std.proofs.lemmas.Bool.{cases_eq, ne_eqb, cond_both}
use Rattle.keyed.specs.Keyed.{find}
use Rattle.keyed.specs.Choices.{given, whether}
use Rattle.keyed.specs.Members.{In}
use Rattle.keyed.proofs.Finds.{some_not_none, same_some, find_key}
use Rattle.keyed.proofs.Members.{in_left, in_right, in_kept}
use Rattle.reasons.specs.declared.cause.Cause.TheVariants as cause
use Rattle.reasons.specs.declared.ending.Ending.{Ending}
use Rattle.lineage.specs.Family.{Family}
use Rattle.lineage.specs.Cascade.{cascaded}
use Rattle.supervision.specs.Sound.{Lives}
use Rattle.supervision.specs.Calls as tree
use Rattle.signal.specs.Model as stops
use Rattle.signal.specs.Model.{completion_wakes}
use Rattle.deterministic.specs.Model as model
use Rattle.deterministic.specs.Model.{Task, Registry, Model, id_of, task_at, with_task, with_changed, without_task, one_not_running}
use Rattle.deterministic.specs.Moves.{Move, wake, register, arm, mark, pend, leave, grow, quiet, fell, tally, keep, move, moves}
use Rattle.deterministic.specs.Calls.{marking, marking_task}
use Rattle.deterministic.specs.Ending.{contexts_close, signal_goes, fault_kept, others, markings, cascading, cascade_of, cascade, stops_running, ending_of}
use Rattle.deterministic.specs.Below.{Tiding, seated, marked}
use Rattle.laws.proofs.KinTold.{told_before}
use Rattle.laws.proofs.KinWatched.{Listed, Watched}
use Rattle.laws.proofs.KinTasks.{listed_low, AllBut, Felled, watched_marked, watched_fewer, watched_left}
use Rattle.laws.proofs.KinSeats.{watched_felled, top_felled}
use Rattle.laws.proofs.KinMoves.{Saying, Leads, leads_then, Silent, leads_silent, silent_wakes, Watching, watched_closed_all}

-- MARKS. something else is said, which a mark leaves
abbrev pub Stable : Saying → Type 0
Stable Q = (told : List Tiding) (r : Registry) (F : Family) (k : ℕ) → Q told r F → Q (told ++ marked k ∷ []) (with_changed model.marked k r) F

-- both
abbrev pub Also : List ℕ → Saying → Saying
Also late Q told r F = Watched told late r F × Q told r F

module _ (Q : Saying) (stable : Stable Q) where
  -- a task that is not marked is marked, and woken if it has pended
  leads_mark : (late late' : List ℕ) (k : ℕ) (t : Task) (m : Model) → task_at k m ≡ Some t → AllBut k late late' → Leads (Also late Q) (mark t.id ∷ cond t.pended (wake t.id cause.Abort ∷ []) []) m (Also late' Q)
  leads_mark late late' k t m is fewer =
      let id : t.id ≡ k = find_key id_of k m.registry.tasks t is in
      let here : Listed m.registry t.id t = subst (λ z. find id_of z m.registry.tasks ≡ Some t) (sym id) is in
      let fewer' : AllBut t.id late late' = λ i l. elim (fewer i l) [ inl e ↦ inl (e ∙ sym id) | inr h ↦ inr h ] in
      let woken : List Move = cond t.pended (wake t.id cause.Abort ∷ []) [] in
      leads_then (Also late Q) (Also late' Q) (Also late' Q) (mark t.id ∷ []) woken m
      (λ told ok. (watched_marked told late late' m.registry m.tree t.id t here fewer' ok.0, stable told m.registry m.tree t.id ok.1))
      (leads_silent (Also late' Q) woken (move (mark t.id) m) (cond_both t.pended (wake t.id cause.Abort ∷ []) [] Silent (λ _. tt) (λ _. tt)))

  leads_marking_at : (late late' : List ℕ) (k : ℕ) (m : Model) (o : Option Task) → task_at k m ≡ o → AllBut k late late' → Leads (Also late Q) (given o [] marking_task) m (Also late' Q)
  leads_marking_at late late' k m None is fewer =
      λ told ok. leads_silent (Also late' Q) [] m tt told (watched_fewer told late late' m.registry m.tree k (λ t h. absurd (some_not_none is h)) fewer ok.0, ok.1)
  leads_marking_at late late' k m (Some t) is fewer =
      let woken : List Move = mark t.id ∷ cond t.pended (wake t.id cause.Abort ∷ []) [] in
      cond_both t.marked [] woken (λ (l : List Move). Leads (Also late Q) l m (Also late' Q))
      (λ done told ok. leads_silent (Also late' Q) [] m tt told (watched_fewer told late late' m.registry m.tree k (λ u h. ap (λ (x : Task). x.marked) (same_some h is) ∙ done) fewer ok.0, ok.1))
      (λ _. leads_mark late late' k t m is fewer)

  -- a task is marked, if it is registered and not marked
  pub leads_marking : (late late' : List ℕ) (k : ℕ) (m : Model) → AllBut k late late' → Leads (Also late Q) (marking k m) m (Also late' Q)
  leads_marking late late' k m fewer = leads_marking_at late late' k m (task_at k m) refl fewer

  -- so are these, and the others stay late
  pub leads_markings : (ids late : List ℕ) (m : Model) → Leads (Also (ids ++ late) Q) (markings ids m) m (Also late Q)
  unfolding markings
  leads_markings [] late m = leads_silent (Also late Q) [] m tt
  leads_markings (k ∷ ids) late m =
      leads_then (Also (k ∷ (ids ++ late)) Q) (Also (ids ++ late) Q) (Also late Q) (marking k m) (markings ids (moves (marking k m) m)) m
      (leads_marking (k ∷ (ids ++ late)) (ids ++ late) k m (λ i l. l))
      (leads_markings ids late (moves (marking k m) m))

-- marks hang on the registry alone
move_registry : (a : Move) (m n : Model) → m.registry ≡ n.registry → (move a m).registry ≡ (move a n).registry
move_registry (wake i c) m n e = e
move_registry (register i label node) m n e = ap (with_task i label (Some node)) e
move_registry (arm a) m n e = e
move_registry (mark i) m n e = ap (with_changed model.marked i) e
move_registry (pend i) m n e = ap (with_changed model.pended i) e
move_registry (leave i h) m n e = ap (without_task i) e
move_registry (grow g) m n e = e
move_registry (quiet q) m n e = e

moves_registry : (l : List Move) (m n : Model) → m.registry ≡ n.registry → (moves l m).registry ≡ (moves l n).registry
moves_registry [] m n e = e
moves_registry (a ∷ l) m n e = moves_registry l (move a m) (move a n) (move_registry a m n e)

markings_same : (ids : List ℕ) (m n : Model) → m.registry ≡ n.registry → markings ids m ≡ markings ids n
unfolding markings
markings_same [] m n e = refl
markings_same (k ∷ ids) m n e =
    let one : marking k m ≡ marking k n = ap (λ (r : Registry). given (find id_of k r.tasks) [] marking_task) e in
    let after_it : (moves (marking k m) m).registry ≡ (moves (marking k n) n).registry = moves_registry (marking k m) m n e ∙ ap (λ (l : List Move). (moves l n).registry) one in
    ap (λ (l : List Move). l ++ markings ids (moves (marking k m) m)) one ∙ ap (λ (l : List Move). marking k n ++ l) (markings_same ids (moves (marking k m) m) (moves (marking k n) n) after_it)

-- THE CASCADE. a registered task is about to end
pub record Ends (i : ℕ) (told : List Tiding) (r : Registry) (F : Family) : Type 0 where
  pub watched : Watched told [] r F
  pub task : Task
  pub listed : Listed r i task

-- its node is aborted, and its id was given out
record Fell (i : ℕ) (told : List Tiding) (r : Registry) (F : Family) : Type 0 where
  pub low : i < r.next
  pub fell : Felled told i F

fell_stable : (i : ℕ) → Stable (Fell i)
fell_stable i told r F k ok = record { low = ok.low; fell = λ s n h l. ok.fell s n (told_before (seated i s) (marked k) told refl h) l }

-- what is late stays so among more
watched_later : (told : List Tiding) (late : List ℕ) (r : Registry) (F : Family) → Watched told [] r F → Watched told late r F
watched_later told late r F ok = record {
  tree = ok.tree;
  registry = ok.registry;
  sits = λ i s t h is.
      let x = ok.sits i s t h is in
      record { is = x.is; lives = x.lives; task = x.task; spared = λ a. elim (x.spared a) [ inl m ↦ inl m | inr z ↦ absurd z ] };
  falls = ok.falls;
}

-- a task is the ending one, or one of the others
all_late : (i : ℕ) (ids : List ℕ) (j : ℕ) → In j ids → In j (others i ids ++ i ∷ [])
all_late i ids j h = elim (cases_eq j i) [
  | inl e ↦ in_right j (others i ids) (i ∷ []) (inl e)
  | inr e ↦ in_left j (others i ids) (i ∷ []) (in_kept (λ k. not (eqb k i)) j ids h (ap not (ne_eqb j i e)))
]

-- from its node on all is aborted
leads_fell : (i node : ℕ) (t : Task) (m : Model) → task_at i m ≡ Some t → t.node ≡ Some node → Leads (Ends i) (grow (fell node) ∷ []) m (Also (others i (cascaded node m.tree).1 ++ i ∷ []) (Fell i))
leads_fell i node t m is home told ok =
    let r = m.registry in
    let F = m.tree in
    let late = others i (cascaded node F).1 ++ i ∷ [] in
    subst (λ (x : List Tiding). Also late (Fell i) x r (cascaded node F).0) (sym (append-nil told)) (
      watched_felled told late r F node (all_late i (cascaded node F).1) ok.watched,
      record {
        low = listed_low told r ok.watched.registry i t is;
        fell = λ s n h l. top_felled node F ok.watched.tree.whole n (subst (λ z. Lives (cascaded node F).0 z n) (same_some ((ok.watched.registry.homes i s h).1 t is) home) l);
      },
    )

leads_cascading : (i node : ℕ) (t : Task) (m : Model) → task_at i m ≡ Some t → t.node ≡ Some node → Leads (Ends i) (cascading i node m) m (Also (i ∷ []) (Fell i))
leads_cascading i node t m is home =
    let ids = others i (cascaded node m.tree).1 in
    let n = move (grow (fell node)) m in
    let marks : Leads (Also (ids ++ i ∷ []) (Fell i)) (markings ids m) n (Also (i ∷ []) (Fell i)) =
    subst (λ (l : List Move). Leads (Also (ids ++ i ∷ []) (Fell i)) l n (Also (i ∷ []) (Fell i))) (markings_same ids n m refl) (leads_markings (Fell i) (fell_stable i) ids (i ∷ []) n) in
    leads_then (Ends i) (Also (ids ++ i ∷ []) (Fell i)) (Also (i ∷ []) (Fell i)) (grow (fell node) ∷ []) (markings ids m) m (leads_fell i node t m is home) marks

leads_cascade_of : (i : ℕ) (t : Task) (m : Model) → task_at i m ≡ Some t → (o : Option ℕ) → t.node ≡ o → Leads (Ends i) (given o [] (λ node. cascading i node m)) m (Also (i ∷ []) (Fell i))
leads_cascade_of i t m is None home =
    λ told ok. leads_silent (Also (i ∷ []) (Fell i)) [] m tt told (
      watched_later told (i ∷ []) m.registry m.tree ok.watched,
      record { low = listed_low told m.registry ok.watched.registry i t is; fell = λ s n h l. absurd (some_not_none home ((ok.watched.registry.homes i s h).1 t is)) },
    )
leads_cascade_of i t m is (Some node) home = leads_cascading i node t m is home

leads_cascade_at : (i : ℕ) (m : Model) (o : Option Task) → task_at i m ≡ o → Leads (Ends i) (given o [] (λ t. cascade_of i t m)) m (Also (i ∷ []) (Fell i))
leads_cascade_at i m None is = λ told ok. absurd (some_not_none is ok.listed)
leads_cascade_at i m (Some t) is = leads_cascade_of i t m is t.node refl

-- THE END
leads_contexts : (i : ℕ) (m : Model) → Leads (Ends i) (contexts_close i m) m (Ends i)
leads_contexts i m told ok =
    subst (λ (x : List Tiding). Ends i x m.registry (tree.closed_all i m.tree)) (sym (append-nil told))
    (record { watched = watched_closed_all told [] m.registry m.tree i ok.watched; task = ok.task; listed = ok.listed })

silent_fault : (code : Option ℕ) (m : Model) → Silent (fault_kept code m)
silent_fault None m = tt
silent_fault (Some c) m = cond_both m.faults.caught [] (whether m.faults.kept (quiet (keep c) ∷ wake 0 cause.Fault ∷ []) []) Silent (λ _. tt) (λ _. first_kept m.faults.kept) where
  first_kept : (o : Option ℕ) → Silent (whether o (quiet (keep c) ∷ wake 0 cause.Fault ∷ []) [])
  first_kept None = tt
  first_kept (Some d) = tt

silent_stops : (m : Model) (o : Option Task) → Silent (given o [] (λ (t : Task). cond t.marked [] (quiet (tally (one_not_running m.counts)) ∷ [])))
silent_stops m None = tt
silent_stops m (Some t) = cond_both t.marked [] (quiet (tally (one_not_running m.counts)) ∷ []) Silent (λ _. tt) (λ _. tt)

leads_leave : (i : ℕ) (h : Ending) (m : Model) → Leads (Also (i ∷ []) (Fell i)) (leave i h ∷ []) m (Watching [])
leads_leave i h m told ok = watched_left told m.registry m.tree i ok.1.low ok.1.fell ok.0

-- the end of a registered task
pub leads_ending : (i : ℕ) (h : Ending) (code : Option ℕ) (m : Model) → Leads (Ends i) (ending_of i h code m) m (Watching [])
leads_ending i h code m₀ =
    let fallen = Also (i ∷ []) (Fell i) in
    let l₀ = contexts_close i m₀ in
    let m₁ = moves l₀ m₀ in
    let l₁ = signal_goes i m₁ in
    let m₂ = moves l₁ m₁ in
    let l₂ = fault_kept code m₂ in
    let m₃ = moves l₂ m₂ in
    let l₃ = cascade i m₃ in
    let m₄ = moves l₃ m₃ in
    let l₄ = stops_running i m₄ in
    let m₅ = moves l₄ m₄ in
    let l₅ = leave i h ∷ [] in
    leads_then (Ends i) (Ends i) (Watching []) l₀ (l₁ ++ (l₂ ++ (l₃ ++ (l₄ ++ l₅)))) m₀ (leads_contexts i m₀)
    (leads_then (Ends i) (Ends i) (Watching []) l₁ (l₂ ++ (l₃ ++ (l₄ ++ l₅))) m₁ (leads_silent (Ends i) l₁ m₁ (silent_wakes cause.Stop (completion_wakes m₁.stop (stops.ended i m₁.stop))))
    (leads_then (Ends i) (Ends i) (Watching []) l₂ (l₃ ++ (l₄ ++ l₅)) m₂ (leads_silent (Ends i) l₂ m₂ (silent_fault code m₂))
    (leads_then (Ends i) fallen (Watching []) l₃ (l₄ ++ l₅) m₃ (leads_cascade_at i m₃ (task_at i m₃) refl)
    (leads_then fallen fallen (Watching []) l₄ l₅ m₄ (leads_silent fallen l₄ m₄ (silent_stops m₄ (task_at i m₄)))
    (leads_leave i h m₅)))))
