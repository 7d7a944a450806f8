-- The close of a round keeps an executor sound, and a run starts within the bounds.
use Rattle.std.proofs.Common.{◌≡◌, ℕ, ◌+◌, ◌<◌, ◌≤◌, Bool, true, not, leb, List, [], ◌∷◌, length, is_some, Some, None, Option, sym, refl, ap, arith}
use Rattle.std.proofs.lemmas.List.{length_push}
use Rattle.std.proofs.lemmas.Bool.{and_parts, leb-true}
use Rattle.std.proofs.lemmas.List.Filters.{length-filter_both}
use Rattle.keyed.specs.Choices.{given}
use Rattle.entry.specs.declared.Entry.{Entry}
use Rattle.entry.specs.declared.Entry.TheVariants as entry
use Rattle.ledger.specs.Book.{empty, right_size}
use Rattle.alarms.specs.declared.Alarm.{Alarm}
use Rattle.alarms.specs.Laws.{due, later}
use Rattle.signal.specs.Model.{has_stopped, complete}
use Rattle.ledger.proofs.Books.{free_written}
use Rattle.deterministic.specs.declared.clock.Clock.{Clock}
use Rattle.deterministic.specs.Model.{Model, with_clock, with_alarms, free, noted, queued, at_time}
use Rattle.deterministic.specs.Run.{ticked, jump, leapt, leapt_to, ringing, standing, rung, completed}
use Rattle.deterministic.specs.Start.{idle_at}
use Rattle.deterministic.specs.Bounds.{Sound, Calm, unmarked, open_contexts}
use Rattle.bounds.specs.Kept.{Closes, Starts}
use Rattle.bounds.proofs.Numbers.{cond_most}
use Rattle.bounds.proofs.Held.{Held, all, held, sound, held_noted, held_clock, held_queued}

-- n follows m by steps of a close that queue some ids and write some entries, and count no round
record Moved (queues writes : ℕ) (m n : Model) : Type 0 where
  stands : Held all n
  waiting : length n.queues.waiting ≡ length m.queues.waiting + queues
  wrote : free n + writes ≡ free m
  longer : length n.ledger.log ≡ length m.ledger.log + writes
  counted : n.counts.iterations ≡ m.counts.iterations
  alarms : n.alarms ≡ m.alarms

-- the clock moves to a time, and the entry says so
at : (t : ℕ) (e : Entry) (m : Model) → Held all m → 0 < free m → Moved 0 1 m (noted e (with_clock (at_time t m.clock) m))
at t e m h room = record {
  stands = held_noted all (with_clock (at_time t m.clock) m) (held_clock all m h (at_time t m.clock)) e room;
  waiting = omega arith;
  wrote = free_written e m.ledger room;
  longer = length_push m.ledger.log e;
  counted = refl;
  alarms = refl;
}

-- n follows m by a jump of the clock, which writes one entry, or by none
record Jumped (m n : Model) : Type 0 where
  writes : ℕ
  most : writes ≤ 1
  moves : Moved 0 writes m n

-- the clock jumps or stays
jumps : (m : Model) → Held all m → 0 < free m → Jumped m (leapt m)
jumps m h room = go (jump m) where
  go : (o : Option ℕ) → Jumped m (given o m (λ t. leapt_to t m))
  go None = record {
    writes = 0;
    most = omega arith;
    moves = record { stands = h; waiting = omega arith; wrote = omega arith; longer = omega arith; counted = refl; alarms = refl };
  }
  go (Some t) = record { writes = 1; most = omega arith; moves = at t (entry.Jump t) m h room }

-- each alarm that rings queues an id and writes an entry
rings : (l : List Alarm) (m : Model) → Held all m → length l ≤ free m → Moved (length l) (length l) m (ringing l m)
unfolding ringing
rings [] m h room = record { stands = h; waiting = omega arith; wrote = omega arith; longer = omega arith; counted = refl; alarms = refl }
rings (a ∷ l) m h room =
    let e : Entry = entry.Ring a.task a.time in
    let next : Model = queued a.task e m in
    let fewer = free_written e m.ledger (omega arith) in
    let more = length_push m.queues.waiting a.task in
    let longer = length_push m.ledger.log e in
    let rest = rings l next (held_queued all m h a.task e (omega arith)) (omega arith) in
    record {
      stands = rest.stands;
      waiting = omega (arith, rest.waiting);
      wrote = omega (arith, rest.wrote);
      longer = omega (arith, rest.longer);
      counted = rest.counted;
      alarms = rest.alarms;
    }

-- other alarms stand, and no arming is new
held_standing : (l : List Alarm) (m : Model) → Held all m → Held all (with_alarms (standing l m.alarms) m)
held_standing l m h = record { listed = h.listed; list_next = h.list_next; few = h.few; seated = h.seated; numbered = omega (arith, h.numbered) }

held_completed : (m : Model) → Held all m → m.counts.iterations + 1 ≤ length m.ledger.log → Held all (completed m)
held_completed m h less = record { listed = h.listed; list_next = h.list_next; few = h.few; seated = h.seated; numbered = omega (arith, h.numbered, less) }

-- of these alarms no more are due than stand
due_length : (now : ℕ) (l : List Alarm) → length (due now l) ≤ length l
due_length now l = omega (arith, length-filter_both (λ a. leb a.time now) (λ a. not (leb a.time now)) (λ _. refl) l)

-- a close keeps an executor sound, and leaves at most 577 ids waiting
pub close_keeps : (m : Model) → Sound m → Calm m → 512 ≤ free m → length m.alarms.alarms ≤ 128 → Closes m
close_keeps m s calm room few =
    let time = m.clock.time + m.clock.cycle in
    let tick = at time (entry.Tick time) m (held m s) (omega arith) in
    let m₁ : Model = ticked m in
    let leap = jumps m₁ tick.stands (omega (arith, tick.wrote)) in
    let m₂ : Model = leapt m₁ in
    let now = m₂.clock.time in
    let l : List Alarm = due now m₂.alarms.alarms in
    let still : Model = with_alarms (standing (later now m₂.alarms.alarms) m₂.alarms) m₂ in
    let alarms : length m₂.alarms.alarms ≡ length m.alarms.alarms = ap (λ B. length B.alarms) leap.moves.alarms in
    let most : length l ≤ 128 = omega (arith, due_length now m₂.alarms.alarms) in
    let wakes : length m.queues.waiting ≤ 449 = omega (arith, calm, cond_most (has_stopped m.stop) 64, cond_most (complete m.stop) 64, cond_most (is_some m.faults.kept) 1) in
    let ring = rings l still (held_standing (later now m₂.alarms.alarms) m₂ leap.moves.stands) (omega (arith, tick.wrote, leap.most, leap.moves.wrote)) in
    record {
      ticks = sound m₁ tick.stands;
      ticks_free = sym tick.wrote;
      leaps = sound m₂ leap.moves.stands;
      leaps_free = omega (arith, tick.wrote, leap.most, leap.moves.wrote);
      leaps_waiting = omega (arith, tick.waiting, leap.moves.waiting);
      rings = sound (rung m₂) ring.stands;
      rings_free = omega (arith, tick.wrote, leap.most, leap.moves.wrote, ring.wrote);
      rings_waiting = omega (arith, tick.waiting, leap.moves.waiting, ring.waiting);
      completes = sound (completed (rung m₂)) (held_completed (rung m₂) ring.stands
          (omega (arith, s.numbered.rounds, tick.longer, tick.counted, leap.moves.longer, leap.moves.counted, ring.longer, ring.counted)));
    }

-- an executor over memory of the right size starts within the bounds
pub starts : (clock : Clock) (caught : Bool) (memory : List Entry) → right_size memory ≡ true → Starts (queued 0 (entry.Reg 0) (idle_at clock caught (empty memory)))
unfolding open_contexts unmarked
starts clock caught memory right =
    let p = and_parts (leb 1024 (length memory)) (leb (length memory) 65536) right in
    let least = leb-true 1024 (length memory) p.0 in
    let most = leb-true (length memory) 65536 p.1 in
    let fewer = free_written (entry.Reg 0) (empty memory) (omega arith) in
    record {
      sound = record { listed = refl; list_next = refl; few = omega arith; seated = λ k le. refl; numbered = omega (arith, fewer) };
      calm = omega arith;
      waiting = refl;
      spare = omega arith;
    }
