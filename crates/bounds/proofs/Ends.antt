-- The end of a task keeps the bounds: one lemma for each of its parts.
use Rattle.std.proofs.Common.{◌≡◌, ℕ, ◌+◌, ◌≤◌, Bool, true, false, cond, List, [], ◌∷◌, ◌++◌, length, Some, None, Option, sym, refl, ap, ◌∙◌, subst, arith}
use Rattle.std.proofs.lemmas.List.{length_push}
use Rattle.keyed.specs.Keyed.{without}
use Rattle.keyed.specs.Choices.{whether, given}
use Rattle.keyed.proofs.Finds.{length_without}
use Rattle.entry.specs.declared.Entry.TheVariants as entry
use Rattle.reasons.specs.declared.cause.Cause.TheVariants as cause
use Rattle.reasons.specs.declared.ending.Ending.{Ending}
use Rattle.roster.specs.Row.{task_of}
use Rattle.roster.proofs.Tasks.{tasks_departed}
use Rattle.lineage.specs.Family.{Family}
use Rattle.lineage.specs.Cascade.{cascaded}
use Rattle.supervision.specs.Calls.{closed_all}
use Rattle.signal.specs.Model.{Stops, ended, completion_wakes}
use Rattle.growth.proofs.Growth.{closed_all_next, closed_all_opens, closed_all_seats, left_next, left_opens, left_seats, cascaded_next, cascaded_opens, cascaded_seats}
use Rattle.ledger.proofs.Books.{free_written}
use Rattle.deterministic.specs.Model.{Task, Model, with_tree, free, id_of, task_at, one_not_running}
use Rattle.deterministic.specs.Moves.{Move, wake, mark, leave, quiet, tally, signals, keep, move, moves, Doing, ◌then◌, after_doing}
use Rattle.deterministic.specs.Calls.{marking, marking_task}
use Rattle.deterministic.specs.Ending.{contexts_close, signal_goes, fault_stays, fault_kept, others, markings, cascading, cascade_of, cascade, stops_running, ending_of}
use Rattle.deterministic.specs.Bounds.{Sound, Calm, by_fault}
use Rattle.deterministic.proofs.Doings.{after_then}
use Rattle.bounds.specs.Kept.{Ended}
use Rattle.deterministic.proofs.Unmarked.{unmarked_length, unmarked_without}
use Rattle.bounds.proofs.Numbers.{rows_length}
use Rattle.bounds.proofs.Lists.{without_ids}
use Rattle.bounds.proofs.Held.{Held, all, held, sound, held_faults, held_tree, held_queued, held_not_running}
use Rattle.bounds.proofs.Signals.{ended_wakes}
use Rattle.bounds.proofs.Wakes.{load, allowance, woken, held_wakes}
use Rattle.bounds.proofs.Marks.{marks_all}

-- the ids without one of them
abbrev pub but : ℕ → List ℕ → List ℕ
but i ids = without (λ k. k) i ids

-- n follows m by a part of an end, which writes at most so many entries
pub record Passed (listing : List ℕ → List ℕ) (most : ℕ) (m n : Model) : Type 0 where
  pub stands : Held listing n
  pub calmed : load n + allowance m ≤ load m + allowance n
  pub wrote : free m ≤ free n + most

-- nothing has happened
nothing : (listing : List ℕ → List ℕ) (most : ℕ) (m : Model) → Held listing m → Passed listing most m m
nothing listing most m h = record { stands = h; calmed = omega arith; wrote = omega arith }

-- its contexts close: no context and no seat is new
pub closes : (i : ℕ) (m : Model) → Held all m → Passed all 0 m (after_doing (contexts_close i) m)
closes i m h = record {
  stands = held_tree all m h (closed_all i m.tree) (closed_all_next i m.tree) (closed_all_opens i m.tree) (λ k. closed_all_seats k i m.tree);
  calmed = omega arith;
  wrote = omega arith;
}

-- its signal goes, and its row with it
pub goes : (i : ℕ) (m : Model) → Held all m → 64 ≤ free m → Passed (but i) 64 m (after_doing (signal_goes i) m)
goes i m h room =
    let S : Stops = ended i m.stop in
    let now : Model = move (quiet (signals S)) m in
    let few : length S.roll.rows ≤ 64 = omega (arith, h.few, rows_length m.stop.roll.rows m.registry.tasks h.listed, length_without task_of i m.stop.roll.rows) in
    let some = ended_wakes i m.stop in
    let ids = completion_wakes m.stop S in
    let most : length ids ≤ 64 = omega (arith, some.all) in
    let w = woken cause.Stop ids now (omega arith) in
    let stands : Held (but i) now = record {
      listed = tasks_departed i m.stop.roll ∙ ap (but i) h.listed;
      list_next = h.list_next;
      few = h.few;
      seated = h.seated;
      numbered = omega (arith, h.numbered);
    } in
    record {
      stands = held_wakes (but i) cause.Stop ids now (omega arith) stands;
      calmed = omega (arith, w, some.counted few);
      wrote = omega (arith, w.wrote);
    }

-- a fault wakes the root, if it is the first that is kept
fault_passes : (listing : List ℕ → List ℕ) (code : ℕ) (m : Model) → Held listing m → 1 ≤ free m → Passed listing 1 m (after_doing (fault_stays code) m)
fault_passes listing code m h room = go m.faults.caught m.faults.kept refl where
  kept_now : Model
  kept_now = move (quiet (keep code)) m

  first : m.faults.kept ≡ None → Passed listing 1 m (move (wake 0 cause.Fault) kept_now)
  first none =
      let more = length_push m.queues.waiting 0 in
      let fewer = free_written (entry.Wake 0 cause.Fault) m.ledger room in
      let was : by_fault m.faults ≡ 0 = ap (λ (o : Option ℕ). by_fault (record { caught = m.faults.caught; kept = o })) none in
      record {
        stands = held_queued listing kept_now (held_faults listing m h kept_now.faults) 0 (entry.Wake 0 cause.Fault) room;
        calmed = omega arith;
        wrote = omega arith;
      }

  go : (b : Bool) (o : Option ℕ) → m.faults.kept ≡ o → Passed listing 1 m (moves (cond b [] (whether o (quiet (keep code) ∷ wake 0 cause.Fault ∷ []) [])) m)
  go true o e = nothing listing 1 m h
  go false None e = first e
  go false (Some c) e = nothing listing 1 m h

-- a fault of its own, if there is one
pub faults : (listing : List ℕ → List ℕ) (code : Option ℕ) (m : Model) → Held listing m → 1 ≤ free m → Passed listing 1 m (after_doing (fault_kept code) m)
faults listing None m h room = nothing listing 1 m h
faults listing (Some c) m h room = fault_passes listing c m h room

-- the moves of a mark leave the tree
mark_moves_tree : (F : Family) (o : Option Task) (m : Model) → moves (given o [] marking_task) (with_tree F m) ≡ with_tree F (moves (given o [] marking_task) m)
mark_moves_tree F None m = refl
mark_moves_tree F (Some t) m = go t.marked t.pended where
  go : (b p : Bool) →
      moves (cond b [] (mark t.id ∷ cond p (wake t.id cause.Abort ∷ []) [])) (with_tree F m) ≡ with_tree F (moves (cond b [] (mark t.id ∷ cond p (wake t.id cause.Abort ∷ []) [])) m)
  go true p = refl
  go false true = refl
  go false false = refl

-- whom marks are made for does not hang on the tree
pub markings_tree : (F : Family) (ids : List ℕ) (m : Model) → markings ids (with_tree F m) ≡ markings ids m
unfolding markings
markings_tree F [] m = refl
markings_tree F (i ∷ ids) m =
    ap (λ (l : List Move). marking i m ++ l) (ap (markings ids) (mark_moves_tree F (task_at i m) m) ∙ markings_tree F ids (moves (marking i m) m))

-- all below its node is aborted, and at most 64 tasks are marked
cascading_passes : (listing : List ℕ → List ℕ) (i node : ℕ) (m : Model) → Held listing m → 128 ≤ free m → Passed listing 128 m (after_doing (cascading i node) m)
cascading_passes listing i node m h room =
    let F : Family = (cascaded node m.tree).0 in
    let ids = others i (cascaded node m.tree).1 in
    let felled : Model = with_tree F m in
    let opens = cascaded_opens node m.tree in
    let stands : Held listing felled = held_tree listing m h F (cascaded_next node m.tree) (omega arith) (λ k. omega (arith, cascaded_seats k node m.tree)) in
    let most = unmarked_length m.registry.tasks in
    let marked = marks_all listing ids felled stands (omega (arith, h.few)) in
    subst (λ (l : List Move). Passed listing 128 m (moves l felled)) (markings_tree F ids m) (record {
      stands = marked.stands;
      calmed = omega (arith, marked.loaded, marked.allowed);
      wrote = omega (arith, marked.spent, h.few);
    })

-- all below it is aborted, if it has a node
pub cascades : (listing : List ℕ → List ℕ) (i : ℕ) (m : Model) → Held listing m → 128 ≤ free m → Passed listing 128 m (after_doing (cascade i) m)
cascades listing i m h room = go (task_at i m) where
  at_node : (o : Option ℕ) → Passed listing 128 m (moves (given o [] (λ node. cascading i node m)) m)
  at_node None = nothing listing 128 m h
  at_node (Some node) = cascading_passes listing i node m h room

  go : (o : Option Task) → Passed listing 128 m (moves (given o [] (λ t. cascade_of i t m)) m)
  go None = nothing listing 128 m h
  go (Some t) = at_node t.node

-- it runs no more
pub runs_no_more : (listing : List ℕ → List ℕ) (i : ℕ) (m : Model) → Held listing m → Passed listing 0 m (after_doing (stops_running i) m)
runs_no_more listing i m h = go (task_at i m) where
  unless_marked : (b : Bool) → Passed listing 0 m (moves (cond b [] (quiet (tally (one_not_running m.counts)) ∷ [])) m)
  unless_marked true = nothing listing 0 m h
  unless_marked false = record { stands = held_not_running listing m h; calmed = omega arith; wrote = omega arith }

  go : (o : Option Task) → Passed listing 0 m (moves (given o [] (λ t. cond t.marked [] (quiet (tally (one_not_running m.counts)) ∷ []))) m)
  go None = nothing listing 0 m h
  go (Some t) = unless_marked t.marked

-- it leaves the registry, which then has the ids that are listed
pub leaves : (i : ℕ) (how : Ending) (m : Model) → Held (but i) m → 1 ≤ free m → Passed all 1 m (move (leave i how) m)
leaves i how m h room =
    let fewer = free_written (entry.Done i how) m.ledger room in
    let longer = length_push m.ledger.log (entry.Done i how) in
    let next = left_next i m.tree in
    let opens = left_opens i m.tree in
    let n = h.numbered in
    record {
      stands = record {
        listed = h.listed ∙ sym (without_ids i m.registry.tasks);
        list_next = h.list_next;
        few = omega (arith, h.few, length_without id_of i m.registry.tasks);
        seated = λ k le. omega (arith, h.seated k le, left_seats k i m.tree);
        numbered = omega (arith, n, next, opens, fewer, longer);
      };
      calmed = omega (arith, unmarked_without i m.registry.tasks);
      wrote = omega arith;
    }

-- one part after another
follows : (listing other : List ℕ → List ℕ) (few many most : ℕ) (f g : Doing) (m : Model) → few + many ≤ most
    → Passed listing few m (after_doing f m) → Passed other many (after_doing f m) (after_doing g (after_doing f m)) → Passed other most m (after_doing (f then g) m)
follows listing other few many most f g m le first second =
    subst (Passed other most m) (sym (after_then f g m)) (record {
      stands = second.stands;
      calmed = omega (arith, first.calmed, second.calmed);
      wrote = omega (arith, first.wrote, second.wrote);
    })

-- the end of a task: 64 wakes of completion, the fault's wake, two entries for each of 64 marks, and the end itself
pub ends : (i : ℕ) (how : Ending) (code : Option ℕ) (m : Model) → Held all m → 194 ≤ free m → Passed all 194 m (after_doing (ending_of i how code) m)
ends i how code m h room =
    let done : Doing = λ n. leave i how ∷ [] in
    let m₁ : Model = after_doing (contexts_close i) m in
    let p₁ = closes i m h in
    let m₂ : Model = after_doing (signal_goes i) m₁ in
    let p₂ = goes i m₁ p₁.stands (omega (arith, p₁.wrote)) in
    let m₃ : Model = after_doing (fault_kept code) m₂ in
    let p₃ = faults (but i) code m₂ p₂.stands (omega (arith, p₁.wrote, p₂.wrote)) in
    let m₄ : Model = after_doing (cascade i) m₃ in
    let p₄ = cascades (but i) i m₃ p₃.stands (omega (arith, p₁.wrote, p₂.wrote, p₃.wrote)) in
    let m₅ : Model = after_doing (stops_running i) m₄ in
    let p₅ = runs_no_more (but i) i m₄ p₄.stands in
    let p₆ = leaves i how m₅ p₅.stands (omega (arith, p₁.wrote, p₂.wrote, p₃.wrote, p₄.wrote, p₅.wrote)) in
    follows all all 0 194 194 (contexts_close i) (signal_goes i then fault_kept code then cascade i then stops_running i then done) m (omega arith) p₁
    (follows (but i) all 64 130 194 (signal_goes i) (fault_kept code then cascade i then stops_running i then done) m₁ (omega arith) p₂
    (follows (but i) all 1 129 130 (fault_kept code) (cascade i then stops_running i then done) m₂ (omega arith) p₃
    (follows (but i) all 128 1 129 (cascade i) (stops_running i then done) m₃ (omega arith) p₄
    (follows (but i) all 0 1 1 (stops_running i) done m₄ (omega arith) p₅ p₆))))

-- the end of a task keeps the bounds
pub end_keeps : (i : ℕ) (how : Ending) (code : Option ℕ) (m : Model) → Sound m → Calm m → 194 ≤ free m → Ended m (after_doing (ending_of i how code) m)
end_keeps i how code m s calm room =
    let p = ends i how code m (held m s) room in
    record { sound = sound (after_doing (ending_of i how code) m) p.stands; calm = omega (arith, calm, p.calmed); wrote = p.wrote }
