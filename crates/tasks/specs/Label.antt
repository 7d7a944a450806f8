-- What a label says.
use Rattle.std.specs.Prelude.{ℕ, List, take}
use Rattle.tasks.specs.declared.label.Label.{Label}

-- the label's bytes, without what its memory holds beyond them
abbrev pub label_bytes : Label → List ℕ
label_bytes l = take l.len l.bytes
