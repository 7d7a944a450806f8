-- The conditions on which calls are refused: each is one test, which gives its refusal or none.
use Rattle.std.specs.Prelude.{ℕ, ◌+◌, ◌^◌, Bool, cond, ◌||◌, List, length, Some, None, Option, nat_le, nat_lt}
use Rattle.std.specs.Option.{option_or}
use Rattle.lineage.specs.Family.{open_for, aborted_at, node_free}
use Rattle.lineage.specs.Births.{link_free}
use Rattle.alarms.specs.Model.{has_room, found, is_for}
use Rattle.roster.specs.Model.{holder}
use Rattle.signal.specs.Model.{has_stopped}
use Rattle.deterministic.specs.declared.refusal.Refusal.{Refusal}
use Rattle.deterministic.specs.declared.refusal.Refusal.TheVariants as refusal
use Rattle.deterministic.specs.Model.{Model, free}

-- the refusal, where the condition does not hold
abbrev pub unless : Bool → Refusal → Option Refusal
unless holds r = cond holds None (Some r)

infixr 25 ◌else◌
-- the first refusal, or else the second
abbrev pub ◌else◌ : Option Refusal → Option Refusal → Option Refusal
first else second = option_or first second

-- the task whose body makes the call
abbrev pub caller : Model → ℕ
caller m = m.body.task

-- at most 4,096 calls are granted in a poll
abbrev pub call_granted : Model → Option Refusal
call_granted m = unless (nat_lt m.body.granted 4096) refusal.NoRoom

-- a call that may write asks for 512 free entries too
abbrev pub room : Model → Option Refusal
room m = call_granted m else unless (nat_le 512 (free m)) refusal.NoRoom

-- the task asks a signal that it holds
abbrev pub signal_held : Model → Option Refusal
signal_held m = unless (holder (caller m) m.stop.roll.rows) refusal.NoSignal

-- completion is asked for after the first stop
abbrev pub stop_known : Model → Option Refusal
stop_known m = unless (has_stopped m.stop) refusal.NoSignal

-- the id was given out
abbrev pub id_known : ℕ → Model → Option Refusal
id_known i m = unless (nat_lt i m.registry.next) refusal.UnknownTask

-- the id is not the root's
abbrev pub not_root : ℕ → Option Refusal
not_root i = unless (nat_lt 0 i) refusal.UnknownTask

-- the context is open, and the calling task holds it
abbrev pub context_held : ℕ → Model → Option Refusal
context_held c m = unless (open_for (caller m) c m.tree) refusal.NotOpen

-- a label has at most 32 bytes
abbrev pub label_short : List ℕ → Option Refusal
label_short label = unless (nat_le (length label) 32) refusal.LabelTooLong

-- the context is not aborted
abbrev pub not_aborted : ℕ → Model → Option Refusal
not_aborted c m = cond (aborted_at c m.tree) (Some refusal.ContextAborted) None

-- at most 64 tasks are registered, the root among them
abbrev pub task_free : Model → Option Refusal
task_free m = unless (nat_lt (length m.registry.tasks) 64) refusal.TooManyTasks

-- at most 128 nodes live
abbrev pub node_left : Model → Option Refusal
node_left m = unless (node_free m.tree) refusal.TooManyNodes

-- a child of a node that is not aborted needs a link, of which there are 256
abbrev pub link_left : ℕ → Model → Option Refusal
link_left c m = unless (aborted_at c m.tree || link_free c m.tree) refusal.TooManyLinks

-- fewer than 256 ids wait
abbrev pub place_free : Model → Option Refusal
place_free m = unless (nat_lt (length m.queues.waiting) 256) refusal.TooManyWaiting

-- the time after a duration fits 64 bits
abbrev pub time_fits : ℕ → Model → Option Refusal
time_fits d m = unless (nat_lt (m.clock.time + d) (2 ^ 64)) refusal.TimeTooLarge

-- the clock has reached a time
abbrev pub reached : ℕ → Model → Bool
reached t m = nat_le t m.clock.time

-- a serial that is given is that of the task's own alarm for the time
abbrev pub serial_fits : ℕ → Option ℕ → Model → Option Refusal
serial_fits t None m = None
serial_fits t (Some serial) m = unless (is_for (caller m) t (found serial m.alarms.alarms)) refusal.NotOwnAlarm

-- without a serial an alarm is armed, of which there are 128
abbrev pub alarm_left : Option ℕ → Model → Option Refusal
alarm_left None m = unless (has_room m.alarms) refusal.TooManyAlarms
alarm_left (Some serial) m = None

-- a time that is not reached is waited for by an alarm
abbrev pub alarm_fits : ℕ → Option ℕ → Model → Option Refusal
alarm_fits t serial m = cond (reached t m) None (serial_fits t serial m else alarm_left serial m)
