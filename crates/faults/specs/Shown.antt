-- How a refusal is written. Assumes nothing.
use Rattle.std.specs.Prelude.{ℕ, List, ◌++◌, codes, decimal}
use Rattle.faults.specs.declared.fault.Layer.{Layer}
use Rattle.faults.specs.declared.fault.Layer.TheVariants.{Reader, Script, Call}
use Rattle.faults.specs.declared.line.FaultLine.{FaultLine}

-- the word for a layer
abbrev pub layer_word : Layer → List ℕ
layer_word Reader = codes "reader"
layer_word Script = codes "script"
layer_word Call = codes "call"

-- the line that tells a refusal: its line, its number, and who refused
abbrev pub fault_line : FaultLine → List ℕ
fault_line l =
    codes "(fault " ++ (decimal l.line ++ (codes " " ++ (decimal l.number ++ (codes " " ++ (layer_word l.layer ++ codes ")")))))
