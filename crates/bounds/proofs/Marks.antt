-- Tasks that are marked aborted: each mark spends a task that was not marked, and writes at most two entries.
use Rattle.std.proofs.Common.{◌≡◌, ℕ, ◌+◌, ◌*◌, ◌≤◌, Bool, true, false, cond, List, [], ◌∷◌, Some, None, Option, sym, refl, ap, ◌∙◌, subst, arith}
use Rattle.std.proofs.lemmas.List.{length_push}
use Rattle.keyed.specs.Choices.{given}
use Rattle.keyed.proofs.Finds.{find_key}
use Rattle.entry.specs.declared.Entry.TheVariants as entry
use Rattle.ledger.proofs.Books.{free_written}
use Rattle.reasons.specs.declared.cause.Cause.TheVariants as cause
use Rattle.deterministic.specs.Model.{Task, Model, with_registry, with_counts, free, id_of, task_at, marked, with_changed, one_not_running}
use Rattle.deterministic.specs.Moves.{wake, mark, move, moves, after_doing}
use Rattle.deterministic.specs.Calls.{marking, marking_task}
use Rattle.deterministic.specs.Ending.{markings}
use Rattle.deterministic.specs.Bounds.{unmarked}
use Rattle.deterministic.proofs.Doings.{after_then}
use Rattle.deterministic.proofs.Unmarked.{unmarked_one_fewer}
use Rattle.bounds.proofs.Held.{Held, held_noted, held_queued, held_changed, held_not_running}
use Rattle.bounds.proofs.Wakes.{load, allowance}

-- n follows m by marks
pub record Marked (listing : List ℕ → List ℕ) (m n : Model) : Type 0 where
  pub stands : Held listing n
  pub loaded : load n ≤ load m
  pub allowed : allowance n ≡ allowance m
  pub spent : free m + 2 * unmarked n.registry.tasks ≤ free n + 2 * unmarked m.registry.tasks

-- n follows m by at most one mark
pub record OnceMarked (listing : List ℕ → List ℕ) (m n : Model) : Type 0 where
  pub marks : Marked listing m n
  pub wrote : free m ≤ free n + 2

no_mark : (listing : List ℕ → List ℕ) (m : Model) → Held listing m → OnceMarked listing m m
no_mark listing m h = record { marks = record { stands = h; loaded = omega arith; allowed = refl; spent = omega arith }; wrote = omega arith }

module _ (listing : List ℕ → List ℕ) (m : Model) (h : Held listing m) (room : 2 * unmarked m.registry.tasks ≤ free m) where
  -- a task that is registered and not marked is marked, and woken if it has pended
  marks_task : (t : Task) → task_at t.id m ≡ Some t → t.marked ≡ false → (wakes : Bool) → OnceMarked listing m (moves (mark t.id ∷ cond wakes (wake t.id cause.Abort ∷ []) []) m)
  marks_task t at not_yet wakes =
      let one_fewer = unmarked_one_fewer t.id m.registry.tasks t at not_yet in
      let changed : Model = with_registry (with_changed marked t.id m.registry) m in
      let calmer : Model = with_counts (one_not_running changed.counts) changed in
      let next : Model = move (mark t.id) m in
      let fewer = free_written (entry.Mark t.id) m.ledger (omega arith) in
      let again = free_written (entry.Wake t.id cause.Abort) next.ledger (omega arith) in
      let more = length_push m.queues.waiting t.id in
      let stands : Held listing next =
      held_noted listing calmer (held_not_running listing changed (held_changed listing m h marked (λ _. refl) t.id)) (entry.Mark t.id) (omega arith)
      in
      elim wakes as (λ b. OnceMarked listing m (moves (mark t.id ∷ cond b (wake t.id cause.Abort ∷ []) []) m)) [
        | true ↦ record {
          marks = record {
            stands = held_queued listing next stands t.id (entry.Wake t.id cause.Abort) (omega arith);
            loaded = omega arith;
            allowed = refl;
            spent = omega arith;
          };
          wrote = omega arith;
        }
        | false ↦ record { marks = record { stands = stands; loaded = omega arith; allowed = refl; spent = omega arith }; wrote = omega arith }
      ]

  -- the task of an id is marked, unless it has ended or is marked
  pub marks_once : (i : ℕ) (o : Option Task) → task_at i m ≡ o → OnceMarked listing m (moves (given o [] marking_task) m)
  marks_once i None e = no_mark listing m h
  marks_once i (Some t) e = go t.marked refl where
    go : (b : Bool) → t.marked ≡ b → OnceMarked listing m (moves (cond b [] (mark t.id ∷ cond t.pended (wake t.id cause.Abort ∷ []) [])) m)
    go true already = no_mark listing m h
    go false not_yet = marks_task t (ap (λ (j : ℕ). task_at j m) (find_key id_of i m.registry.tasks t e) ∙ e) not_yet t.pended

-- each of these tasks is marked
pub marks_all : (listing : List ℕ → List ℕ) (ids : List ℕ) (m : Model) → Held listing m → 2 * unmarked m.registry.tasks ≤ free m → Marked listing m (after_doing (markings ids) m)
unfolding markings
marks_all listing [] m h room = (no_mark listing m h).marks
marks_all listing (i ∷ ids) m h room =
    let next : Model = after_doing (marking i) m in
    let first = (marks_once listing m h room i (task_at i m) refl).marks in
    let rest = marks_all listing ids next first.stands (omega (arith, first.spent)) in
    subst (Marked listing m) (sym (after_then (marking i) (markings ids) m)) (record {
      stands = rest.stands;
      loaded = omega (arith, first.loaded, rest.loaded);
      allowed = rest.allowed ∙ first.allowed;
      spent = omega (arith, first.spent, rest.spent);
    })
