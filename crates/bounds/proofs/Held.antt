-- Who is registered, listed and seated, and every number, through the single changes of an executor.
use Rattle.std.proofs.Common.{◌≡◌, ℕ, ◌<◌, ◌≤◌, List, map, length, sym, ap, ◌∙◌, arith}
use Rattle.std.proofs.lemmas.List.{length_push}
use Rattle.keyed.proofs.Finds.{length_change}
use Rattle.entry.specs.declared.Entry.{Entry}
use Rattle.ledger.proofs.Books.{free_written}
use Rattle.roster.specs.Row.{task_of}
use Rattle.lineage.specs.Family.{Family}
use Rattle.supervision.specs.Sound.{seats_with}
use Rattle.signal.specs.Model.{Stops}
use Rattle.deterministic.specs.declared.clock.Clock.{Clock}
use Rattle.deterministic.specs.Model.{Task, Queues, Faults, Model, with_clock, with_queues, with_registry, with_tree, with_stop, with_faults, with_counts, with_digest, free, noted, queued, id_of, with_changed, one_not_running}
use Rattle.deterministic.specs.Moves.{quiet, grant, move}
use Rattle.deterministic.specs.Bounds.{Sound, Numbered, open_contexts}
use Rattle.bounds.proofs.Lists.{change_ids}

-- an executor is sound but that the stop signal lists, of the registered tasks, what `listing` makes of them
pub record Held (listing : List ℕ → List ℕ) (m : Model) : Type 0 where
  pub listed : map task_of m.stop.roll.rows ≡ listing (map id_of m.registry.tasks)
  pub list_next : m.stop.roll.next ≡ m.registry.next
  pub few : length m.registry.tasks ≤ 64
  pub seated : (task : ℕ) → m.registry.next ≤ task → seats_with task m.tree.nodes ≡ 0
  pub numbered : Numbered m

-- all the ids
abbrev pub all : List ℕ → List ℕ
all ids = ids

-- an executor is sound if all registered tasks are listed
pub held : (m : Model) → Sound m → Held all m
held m s = record { listed = s.listed; list_next = s.list_next; few = s.few; seated = s.seated; numbered = s.numbered }

pub sound : (m : Model) → Held all m → Sound m
sound m s = record { listed = s.listed; list_next = s.list_next; few = s.few; seated = s.seated; numbered = s.numbered }

module _ (listing : List ℕ → List ℕ) (m : Model) (h : Held listing m) where
  pub held_noted : (e : Entry) → 0 < free m → Held listing (noted e m)
  held_noted e room =
      let n = h.numbered in
      let fewer = free_written e m.ledger room in
      let more = length_push m.ledger.log e in
      record { listed = h.listed; list_next = h.list_next; few = h.few; seated = h.seated; numbered = omega (arith, n, fewer, more) }

  pub held_queues : (q : Queues) → Held listing (with_queues q m)
  held_queues q = record { listed = h.listed; list_next = h.list_next; few = h.few; seated = h.seated; numbered = omega (arith, h.numbered) }

  pub held_clock : (c : Clock) → Held listing (with_clock c m)
  held_clock c = record { listed = h.listed; list_next = h.list_next; few = h.few; seated = h.seated; numbered = omega (arith, h.numbered) }

  pub held_digest : (d : List ℕ) → Held listing (with_digest d m)
  held_digest d = record { listed = h.listed; list_next = h.list_next; few = h.few; seated = h.seated; numbered = omega (arith, h.numbered) }

  pub held_faults : (f : Faults) → Held listing (with_faults f m)
  held_faults f = record { listed = h.listed; list_next = h.list_next; few = h.few; seated = h.seated; numbered = omega (arith, h.numbered) }

  -- a tree with the same next serial, and no more contexts and seats
  pub held_tree : (F : Family) → F.next ≡ m.tree.next → open_contexts F.nodes ≤ open_contexts m.tree.nodes → ((k : ℕ) → seats_with k F.nodes ≤ seats_with k m.tree.nodes) → Held listing (with_tree F m)
  held_tree F next opens seats = record {
    listed = h.listed;
    list_next = h.list_next;
    few = h.few;
    seated = λ k le. omega (arith, h.seated k le, seats k);
    numbered = omega (arith, h.numbered);
  }

  -- a stop signal that lists the same ids
  pub held_stop : (S : Stops) → map task_of S.roll.rows ≡ map task_of m.stop.roll.rows → S.roll.next ≡ m.stop.roll.next → Held listing (with_stop S m)
  held_stop S ids next = record { listed = ids ∙ h.listed; list_next = next ∙ h.list_next; few = h.few; seated = h.seated; numbered = omega (arith, h.numbered) }

  -- a task is changed, and keeps its id
  pub held_changed : (f : Task → Task) → ((t : Task) → (f t).id ≡ t.id) → (i : ℕ) → Held listing (with_registry (with_changed f i m.registry) m)
  held_changed f same i = record {
    listed = h.listed ∙ ap listing (sym (change_ids f same i m.registry.tasks));
    list_next = h.list_next;
    few = omega (arith, h.few, length_change id_of f i m.registry.tasks);
    seated = h.seated;
    numbered = omega (arith, h.numbered);
  }

  pub held_not_running : Held listing (with_counts (one_not_running m.counts) m)
  held_not_running = record { listed = h.listed; list_next = h.list_next; few = h.few; seated = h.seated; numbered = omega (arith, h.numbered) }

  pub held_granted : m.body.granted < 4096 → Held listing (move (quiet grant) m)
  held_granted less = record { listed = h.listed; list_next = h.list_next; few = h.few; seated = h.seated; numbered = omega (arith, h.numbered) }

  pub held_queued : (i : ℕ) (e : Entry) → 0 < free m → Held listing (queued i e m)
  held_queued i e room = record {
    listed = h.listed;
    list_next = h.list_next;
    few = h.few;
    seated = h.seated;
    numbered = omega (arith, h.numbered, free_written e m.ledger room, length_push m.ledger.log e);
  }
