-- What the bounds say of single numbers.
use Rattle.std.proofs.Common.{◌≡◌, ℕ, ◌+◌, ◌≤◌, Bool, true, false, cond, List, [], ◌∷◌, map, length, is_some, Some, None, sym, refl, ap, ◌∙◌, arith}
use lib.ListN.{length-map}
use Rattle.std.specs.Option.{option_map}
use Rattle.keyed.specs.Members.{first}
use Rattle.roster.specs.declared.row.Row.{Row}
use Rattle.roster.specs.Row.{task_of}
use Rattle.nodes.specs.declared.Node.{Node}
use Rattle.nodes.specs.Node.{serial_of, seats}
use Rattle.supervision.specs.Sound.{seats_with}
use Rattle.signal.specs.Model.{has_stopped, complete}
use Rattle.deterministic.specs.Model.{Task, Model, id_of}
use Rattle.deterministic.specs.Bounds.{Sound, Numbered, Calm, unmarked}
use Rattle.deterministic.proofs.Unmarked.{unmarked_length}
use Rattle.bounds.specs.Kept.{Small}

-- at most n, if at all
pub cond_most : (b : Bool) (n : ℕ) → cond b n 0 ≤ n
cond_most true n = omega arith
cond_most false n = omega arith

pub unseated : (k : ℕ) (ns : List Node) → seats_with k ns ≡ 0 → option_map serial_of (first (seats k) ns) ≡ None
unseated k [] e = refl
unseated k (n ∷ ns) e = go (seats k n) e (unseated k ns) where
  go : (b : Bool) → cond b 1 0 + seats_with k ns ≡ 0 → (seats_with k ns ≡ 0 → option_map serial_of (first (seats k) ns) ≡ None) → option_map serial_of (cond b (Some n) (first (seats k) ns)) ≡ None
  go true e rest = absurd (omega arith)
  go false e rest = rest (omega arith)

-- rows and tasks whose ids are the same are as many
pub rows_length : (rows : List Row) (ts : List Task) → map task_of rows ≡ map id_of ts → length rows ≡ length ts
rows_length rows ts e = sym (length-map rows task_of) ∙ (ap length e ∙ length-map ts id_of)

pub sound_is_small : (m : Model) → Sound m → Small m
sound_is_small m s =
    let rows = rows_length m.stop.roll.rows m.registry.tasks s.listed in
    let n : Numbered m = s.numbered in
    record {
      id = omega arith;
      serial = omega arith;
      arming = omega arith;
      iterations = omega arith;
      spawned = omega arith;
      running = omega arith;
      polls = omega arith;
      granted = omega arith;
      rows = omega (arith, s.few);
      tasks = s.few;
      fewer_unmarked = omega (arith, s.few, unmarked_length m.registry.tasks);
      unseated = unseated m.registry.next m.tree.nodes (s.seated m.registry.next (omega arith));
    }

pub calm_is_small : (m : Model) → Sound m → Calm m → length m.queues.waiting + 64 + 1 + unmarked m.registry.tasks ≤ 1024
calm_is_small m s c =
    omega (arith, c, cond_most (has_stopped m.stop) 64, cond_most (complete m.stop) 64, cond_most (is_some m.faults.kept) 1)
