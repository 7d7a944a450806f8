-- The steps have room, and are the end of the task.
use Rattle.std.proofs.Common.{arith}
use Rattle.state.specs.View.{view}
use Rattle.bounds.proofs.Numbers.{sound_is_small, calm_is_small}
use Rattle.ending.proofs.Parts.{whole, before_cascade}
use Rattle.ending.proofs.whole.end_task.Goals as goal

pub cascade-requires : goal.cascade-requires
cascade-requires c =
    let m = view c.args.state.now in
    let before = before_cascade _ _ _ _ c.close_contexts.ensures.spent c.let_signal_go.ensures.spent c.keep_fault.ensures.spent in
    let few = (sound_is_small m c.requires.sound).fewer_unmarked in
    let fits = calm_is_small m c.requires.sound c.requires.calm in
    record { fit = record { entries_left = omega (arith, before, few, c.requires.room); places_left = omega (arith, before, fits) } }

pub leave_registry-requires : goal.leave_registry-requires
leave_registry-requires c =
    let before = before_cascade _ _ _ _ c.close_contexts.ensures.spent c.let_signal_go.ensures.spent c.keep_fault.ensures.spent in
    let few = (sound_is_small (view c.args.state.now) c.requires.sound).fewer_unmarked in
    record { room = omega (arith, before, few, c.requires.room, c.cascade.ensures.spent.left, c.stop_running.ensures.room) }

pub returns : goal.returns
returns c =
    record {
      state = whole c.args.task c.args.ending c.args.fault (view c.args.state.now) _ _ _ _ _ _ c.close_contexts.ensures.state c.let_signal_go.ensures.state c.keep_fault.ensures.state c.cascade.ensures.state c.stop_running.ensures.state c.leave_registry.ensures.state;
    }
