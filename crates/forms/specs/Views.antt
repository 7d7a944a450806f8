-- What the steps, tasks and forms of the code mean. Assumes nothing.
use Rattle.std.specs.Prelude.{◌≡◌, ℕ, List, map, Some, None, Ok, Err, vec_items, Option, Result}
use Rattle.std.specs.Borrow.{Bor}
use Rattle.std.specs.Option.{option_map}
use Rattle.tokens.specs.declared.token.LineFault.{LineFault}
use Rattle.tokens.specs.declared.token.Token.{Token}
use Rattle.tokens.specs.Cursor.{mark_of}
use Rattle.tokens.specs.Tokens.{Mark}
use Rattle.forms.specs.declared.fault.FormFault.{FormFault}
use Rattle.forms.specs.declared.fault.FormFault.TheVariants.{NoForm, Memory}
use Rattle.forms.specs.declared.form.Form.{Form}
use Rattle.forms.specs.declared.form.Form.TheVariants as form
use Rattle.forms.specs.declared.form.Step.{Step}
use Rattle.forms.specs.declared.form.Step.TheVariants.{Sleep, Spawn, Wake, Abort, Stop, Await, Done, Fault}
use Rattle.forms.specs.declared.form.TaskForm.{TaskForm}
use Rattle.forms.specs.Meaning.{Act, sleep, spawn, wake, abort, stop, await, done, fault, Task, Says, setting, task}

-- the act of a step
abbrev pub act_of : Step → Act
act_of (Sleep n) = sleep n
act_of (Spawn w) = spawn w.now
act_of (Wake w) = wake w.now
act_of (Abort w) = abort w.now
act_of (Stop z) = stop z
act_of Await = await
act_of (Done z) = done z
act_of (Fault n) = fault n

-- the acts of a task, in order
abbrev pub acts_of : TaskForm → List Act
acts_of t = map act_of (vec_items t.steps)

-- what a task says, with its line
abbrev pub task_of : TaskForm → Task
task_of t = record { name = t.name.now; acts = acts_of t; line = t.line }

-- what a task says, apart from its line
abbrev pub task_says : TaskForm → Says
task_says t = task t.name.now (acts_of t)

-- what a form says, apart from its line
abbrev pub says_of : Form → Says
says_of (form.Setting s) = setting s
says_of (form.Task t) = task_says t

-- a part of a line or a fault, as bytes or a fault
abbrev pub worded : Result (Bor (List ℕ)) LineFault → Result (List ℕ) LineFault
worded (Ok w) = Ok w.now
worded (Err e) = Err e

-- an argument, none, or a fault, as a mark, none, or a fault
abbrev pub argued : Result (Option Token) LineFault → Result (Option Mark) LineFault
argued (Ok o) = Ok (option_map mark_of o)
argued (Err e) = Err e

-- a step or a fault, as an act or a fault
abbrev pub acted : Result Step LineFault → Result Act LineFault
acted (Ok s) = Ok (act_of s)
acted (Err e) = Err e

-- a step, none, or a fault, as an act, none, or a fault
abbrev pub stepped : Result (Option Step) LineFault → Result (Option Act) LineFault
stepped (Ok o) = Ok (option_map act_of o)
stepped (Err e) = Err e

-- the answer is what was said, and no form where nothing was; want of memory tells nothing of it
abbrev pub Means : {A B : Type 0} → (A → B) → Option B → Result A FormFault → Type 0
Means view said (Ok x) = said ≡ Some (view x)
Means view said (Err NoForm) = said ≡ None
Means view said (Err Memory) = Unit {0}

-- a task stands on this line
abbrev pub StandsOn : ℕ → Form → Type 0
StandsOn line (form.Setting s) = Unit {0}
StandsOn line (form.Task t) = t.line ≡ line
