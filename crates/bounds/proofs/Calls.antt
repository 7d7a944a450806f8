-- Every call keeps the bounds, whether it is granted or refused.
use Rattle.std.proofs.Common.{ℕ, ◌+◌, ◌||◌, ltb, leb, List, length, Option}
use Rattle.std.proofs.lemmas.Bool.{ltb-true}
use Rattle.lineage.specs.Family.{open_for, aborted_at, node_free}
use Rattle.lineage.specs.Births.{link_free}
use Rattle.deterministic.specs.declared.refusal.Refusal.{Refusal}
use Rattle.deterministic.specs.declared.refusal.Refusal.TheVariants as refusal
use Rattle.deterministic.specs.Model.{Model}
use Rattle.deterministic.specs.Moves.{moves}
use Rattle.deterministic.specs.Refusals.{caller}
use Rattle.deterministic.specs.Calls.{Call, current, child, close, links, spawn, sleep, sleep_until, wake, abort, stop, stopped, signal, completed, let_go, doings_by, after}
use Rattle.deterministic.specs.Bounds.{Sound, Calm, Spare}
use Rattle.bounds.specs.Kept.{Bounded}
use Rattle.bounds.proofs.Refused.{either, unless_else, unless_alone, where_else, granted_else, granted_alone, room_else, room_alone}
use Rattle.bounds.proofs.Grants as keeps

-- the bounds hold after a call that is granted or refused so
abbrev After : Call → Model → Option Refusal → Type 0
After c m o = Bounded (moves (doings_by o c m) m)

module _ (m : Model) (s : Sound m) (calm : Calm m) (spare : Spare m) where
  -- a refused call leaves the executor as it is
  unchanged : Bounded m
  unchanged = record { sound = s; calm = calm; spare = spare }

  spawn_bounded : (c : ℕ) (label : List ℕ) → Bounded (after (spawn c label) m)
  spawn_bounded c label =
      let P = After (spawn c label) m in
      let links_free = aborted_at c m.tree || link_free c m.tree in
      room_else P m _ (λ less room.
      unless_else P (open_for (caller m) c m.tree) refusal.NotOpen _ (λ is_open.
      unless_else P (leb (length label) 32) refusal.LabelTooLong _ (λ _.
      where_else P (aborted_at c m.tree) refusal.ContextAborted _
      (unless_else P (ltb (length m.registry.tasks) 64) refusal.TooManyTasks _ (λ fewer.
      unless_else P (node_free m.tree) refusal.TooManyNodes _ (λ _.
      unless_else P links_free refusal.TooManyLinks _ (λ _.
      unless_alone P (ltb (length m.queues.waiting) 256) refusal.TooManyWaiting
      (λ place. keeps.spawn_keeps m s calm spare less c label room is_open (ltb-true _ _ fewer) (ltb-true _ _ place))
      unchanged) unchanged) unchanged) unchanged)
      (keeps.spending_keeps m s calm spare c is_open))
      unchanged) unchanged) unchanged

  pub call_keeps : (c : Call) → Bounded (after c m)
  call_keeps current = granted_alone (After current m) m (λ less. keeps.asks m s calm spare less) unchanged
  call_keeps (child c) =
      let P = After (child c) m in
      granted_else P m _ (λ less. either P _ (keeps.child_keeps m s calm spare less c) (λ _. unchanged)) unchanged
  call_keeps (close c) =
      let P = After (close c) m in
      granted_else P m _ (λ less. either P _ (keeps.close_keeps m s calm spare less c) (λ _. unchanged)) unchanged
  call_keeps (links c) =
      let P = After (links c) m in
      granted_else P m _ (λ less. either P _ (keeps.asks m s calm spare less) (λ _. unchanged)) unchanged
  call_keeps (spawn c label) = spawn_bounded c label
  call_keeps (sleep d serial) =
      let P = After (sleep d serial) m in
      room_else P m _ (λ less room. either P _ (keeps.sleep_keeps m s calm spare less (m.clock.time + d) serial room) (λ _. unchanged)) unchanged
  call_keeps (sleep_until t serial) =
      let P = After (sleep_until t serial) m in
      room_else P m _ (λ less room. either P _ (keeps.sleep_keeps m s calm spare less t serial room) (λ _. unchanged)) unchanged
  call_keeps (wake i) =
      let P = After (wake i) m in
      room_else P m _ (λ less room.
      unless_else P (ltb i m.registry.next) refusal.UnknownTask _ (λ _.
      unless_alone P (ltb (length m.queues.waiting) 256) refusal.TooManyWaiting (λ place. keeps.wake_keeps m s calm spare less i room (ltb-true _ _ place)) unchanged)
      unchanged) unchanged
  call_keeps (abort i) =
      let P = After (abort i) m in
      room_else P m _ (λ less room. either P _ (keeps.abort_keeps m s calm spare less i room) (λ _. unchanged)) unchanged
  call_keeps (stop v) = room_alone (After (stop v) m) m (λ less room. keeps.stop_keeps m s calm spare less v room) unchanged
  call_keeps stopped = granted_alone (After stopped m) m (λ less. keeps.stopped_keeps m s calm spare less) unchanged
  call_keeps signal =
      let P = After signal m in
      granted_else P m _ (λ less. either P _ (keeps.signal_keeps m s calm spare less) (λ _. unchanged)) unchanged
  call_keeps completed =
      let P = After completed m in
      granted_else P m _ (λ less. either P _ (keeps.completed_keeps m s calm spare less) (λ _. unchanged)) unchanged
  call_keeps let_go = room_alone (After let_go m) m (λ less room. keeps.let_go_keeps m s calm spare less room) unchanged
