-- The numbers by which refused calls are told, as the codes of faults.
use Rattle.std.specs.Prelude.{ℕ}
use Rattle.deterministic.specs.declared.refusal.Refusal.{Refusal}
use Rattle.deterministic.specs.declared.refusal.Refusal.TheVariants as refusal

-- each refusal of a call has its number
abbrev pub refusal_number : Refusal → ℕ
refusal_number refusal.NoRoom = 5
refusal_number refusal.UnknownTask = 6
refusal_number refusal.NotOpen = 7
refusal_number refusal.LabelTooLong = 8
refusal_number refusal.TooManyTasks = 9
refusal_number refusal.TooManyNodes = 10
refusal_number refusal.TooManyLinks = 11
refusal_number refusal.ContextAborted = 12
refusal_number refusal.TooManyWaiting = 13
refusal_number refusal.TooManyAlarms = 14
refusal_number refusal.NotOwnAlarm = 15
refusal_number refusal.TimeTooLarge = 16
refusal_number refusal.NoSignal = 17
