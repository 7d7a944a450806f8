-- What the scripts of the code mean, and when a reader's answer agrees with the definition.
use Rattle.std.specs.Prelude.{◌≡◌, map, Ok, Err, vec_items, Result}
use Rattle.faults.specs.declared.fault.Fault.{Fault}
use Rattle.faults.specs.declared.read_fault.ReadFault.{ReadFault}
use Rattle.faults.specs.declared.read_fault.ReadFault.TheVariants.{Refused, Memory}
use Rattle.forms.specs.Views.{task_of}
use Rattle.forms.specs.Meaning.{Plan}
use Rattle.script.specs.declared.script.Script.{Script}

-- what a script says
abbrev pub script_of : Script → Plan
script_of s = record { cycle = s.cycle_ns; start = s.start_ns; timeout = s.timeout_ns; catch = s.catch; tasks = map task_of (vec_items s.tasks) }

-- the answer is what the definition gives, seen through a view, or its refusal; want of memory says nothing
abbrev pub Agrees : {A V : Type 0} → (A → V) → Result A ReadFault → Result V Fault → Type 0
Agrees view (Ok a) defined = defined ≡ Ok (view a)
Agrees view (Err (Refused f)) defined = defined ≡ Err f
Agrees view (Err Memory) defined = Unit {0}

-- the answer seen through a view
abbrev pub seen : {A V E : Type 0} → (A → V) → Result A E → Result V E
seen view (Ok a) = Ok (view a)
seen view (Err e) = Err e
