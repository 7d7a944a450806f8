-- What alarms stand for, and what each call makes of it and answers.
use Rattle.std.specs.Prelude.{ℕ, ◌+◌, Bool, false, cond, ◌&&◌, List, [], ◌∷◌, length, Some, None, Ok, Err, Option, Result, ◌==◌, nat_le, nat_lt}
use Rattle.keyed.specs.Members.{first}
use Rattle.reserved.specs.Held.{held}
use Rattle.alarms.specs.declared.Alarm.{Alarm}
use Rattle.alarms.specs.declared.Alarms.{Alarms}
use Rattle.alarms.specs.declared.Full.{Full}
use Rattle.alarms.specs.Order.{most_alarms}

-- the alarms that stand, in the order in which they ring, and the serial of the next arming
pub record Bells : Type 0 where
  pub alarms : List Alarm
  pub next : ℕ

-- the alarms that a value holds, first to ring first
abbrev pub view : Alarms → Bells
view s = record { alarms = held s.standing; next = s.next }

-- no alarm stands, and the first arming gets serial 0
abbrev pub silent : Bells
silent = record { alarms = []; next = 0 }

-- an alarm takes its place behind those that are earlier or as early
abbrev pub placed : Alarm → List Alarm → List Alarm
placed a [] = a ∷ []
placed a (b ∷ bs) = cond (nat_le b.time a.time) (b ∷ placed a bs) (a ∷ b ∷ bs)

-- there is room for one alarm more
abbrev pub has_room : Bells → Bool
has_room B = nat_lt (length B.alarms) most_alarms

-- the alarm that an arming for a task at a time makes
abbrev pub alarm_of : Bells → ℕ → ℕ → Alarm
alarm_of B task time = record { time = time; serial = B.next; task = task }

-- an alarm takes the next serial and its place
abbrev pub added : ℕ → ℕ → Bells → Bells
added task time B = record { alarms = placed (alarm_of B task time) B.alarms; next = B.next + 1 }

-- an arming adds its alarm, if there is room
abbrev pub armed : ℕ → ℕ → Bells → Bells
armed task time B = cond (has_room B) (added task time B) B

-- an arming answers its serial, or that there is no room
abbrev pub arm_answer : Bells → Result ℕ Full
arm_answer B = cond (has_room B) (Ok B.next) (Err (record {}))

-- the earliest time at which an alarm stands
abbrev pub earliest : List Alarm → Option ℕ
earliest [] = None
earliest (a ∷ more) = Some a.time

-- the next alarm to ring, if it is due at a time
abbrev pub first_due : ℕ → List Alarm → Option Alarm
first_due now [] = None
first_due now (a ∷ more) = cond (nat_le a.time now) (Some a) None

-- the alarms without the next to ring, if that one is due
abbrev pub without_first_due : ℕ → List Alarm → List Alarm
without_first_due now [] = []
without_first_due now (a ∷ more) = cond (nat_le a.time now) more (a ∷ more)

-- a ring at a time takes the next alarm to ring, if it is due
abbrev pub rung : ℕ → Bells → Bells
rung now B = record { alarms = without_first_due now B.alarms; next = B.next }

-- an alarm has a serial
abbrev pub has_serial : ℕ → Alarm → Bool
has_serial serial a = a.serial == serial

-- the alarm with a serial, if it stands
abbrev pub found : ℕ → List Alarm → Option Alarm
found serial = first (has_serial serial)

-- an alarm is for a task at a time
abbrev pub is_for : ℕ → ℕ → Option Alarm → Bool
is_for task time None = false
is_for task time (Some a) = a.task == task && a.time == time
