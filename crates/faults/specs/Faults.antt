-- The number, the layer and the line of each refusal of a script. Assumes nothing.
use Rattle.std.specs.Prelude.{ℕ}
use Rattle.faults.specs.declared.fault.Fault.{Fault}
use Rattle.faults.specs.declared.fault.Layer.{Layer}
use Rattle.faults.specs.declared.fault.Layer.TheVariants.{Reader, Script}
use Rattle.faults.specs.declared.fault.Reason.{Reason}
use Rattle.faults.specs.declared.fault.Reason.TheVariants.{TooLong, NoForm, TooMany, Name}
use Rattle.faults.specs.declared.line.FaultLine.{FaultLine}

-- the number that a reason has
abbrev pub number_of : Reason → ℕ
number_of TooLong = 18
number_of NoForm = 19
number_of TooMany = 20
number_of Name = 21

-- the layer that refuses for a reason
abbrev pub layer_of : Reason → Layer
layer_of TooLong = Reader
layer_of NoForm = Reader
layer_of TooMany = Script
layer_of Name = Script

-- a refusal at a line
abbrev pub at : ℕ → Reason → Fault
at n why = record { line = n; reason = why }

-- what is told of a refusal: its line, and the number and the layer of its reason
abbrev pub told : Fault → FaultLine
told f = record { line = f.line; number = number_of f.reason; layer = layer_of f.reason }
