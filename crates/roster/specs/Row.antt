-- A task's row: its signal, and whether it asked for completion.
use Rattle.std.specs.Prelude.{ℕ, Bool, true, false}
use Rattle.roster.specs.declared.row.Signal.{Signal}
use Rattle.roster.specs.declared.row.Signal.TheVariants.{Absent, Open, Awaited, Closed}
use Rattle.roster.specs.declared.row.Row.{Row}

-- as many tasks may have a row
abbrev pub most_tasks : ℕ
most_tasks = 64

-- the task that a row is for
abbrev pub task_of : Row → ℕ
task_of r = r.task

-- a new task holds no signal and has asked for nothing
abbrev pub fresh : ℕ → Row
fresh task = record { task = task; signal = Absent; asked = false }

-- a task that holds no signal takes the new one; a holder keeps its own
abbrev pub taken : Signal → Signal → Signal
taken new Absent = new
taken new Open = Open
taken new Awaited = Awaited
taken new Closed = Closed

-- a task that asks its open signal before the stop waits for the stop
abbrev pub awaited : Signal → Signal
awaited Absent = Absent
awaited Open = Awaited
awaited Awaited = Awaited
awaited Closed = Closed

-- the row with another signal
abbrev pub with_signal : Signal → Row → Row
with_signal s r = record { task = r.task; signal = s; asked = r.asked }

-- the row of a task that takes a signal
abbrev pub takes : Signal → Row → Row
takes new r = with_signal (taken new r.signal) r

-- the row of a task that asks its signal before the stop
abbrev pub awaits : Row → Row
awaits r = with_signal (awaited r.signal) r

-- the row of a task that lets its signal go
abbrev pub lets_go : Row → Row
lets_go = with_signal Absent

-- the row of a task that asks for completion: once asked, for good
abbrev pub asks : Row → Row
asks r = record { task = r.task; signal = r.signal; asked = true }

-- a signal is held
abbrev held_signal : Signal → Bool
held_signal Absent = false
held_signal Open = true
held_signal Awaited = true
held_signal Closed = true

-- a signal is held that was taken before the stop
abbrev pub open_signal : Signal → Bool
open_signal Absent = false
open_signal Open = true
open_signal Awaited = true
open_signal Closed = false

-- a signal is held that was taken before the stop and asked before the stop
abbrev waiting_signal : Signal → Bool
waiting_signal Absent = false
waiting_signal Open = false
waiting_signal Awaited = true
waiting_signal Closed = false

-- the task holds a signal
abbrev pub holds : Row → Bool
holds r = held_signal r.signal

-- the task holds an open signal, one that it took before the stop
abbrev pub is_open : Row → Bool
is_open r = open_signal r.signal

-- the task waits for the stop
abbrev pub is_waiting : Row → Bool
is_waiting r = waiting_signal r.signal

-- the task asked for completion
abbrev pub has_asked : Row → Bool
has_asked r = r.asked
