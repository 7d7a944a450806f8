-- What the outcome of the code means.
use Rattle.std.specs.Prelude.{vec_items}
use Rattle.event_lines.specs.declared.audit.Audited.{Audited}
use Rattle.event_lines.specs.Told.{Outcome}

-- the outcome that a value of the code stands for
abbrev pub outcome_of : Audited → Outcome
outcome_of a = record { text = vec_items a.text; misread = a.misread }
