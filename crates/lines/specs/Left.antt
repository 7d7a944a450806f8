-- The lines that are still to come.
use Rattle.std.specs.Prelude.{◌≡◌, ℕ, ◌<◌, List, [], length, Some, None, Ok, Err, Option, Result}
use Rattle.std.specs.Borrow.{Bor}
use Rattle.lines.specs.declared.Lines.{Lines}
use Rattle.lines.specs.declared.Unended.{Unended}
use Rattle.lines.specs.Lines.{text_of, unended, with_line}

-- the bytes whose lines are still to come
abbrev pub bytes_left : Lines → List ℕ
bytes_left lines = lines.rest.now

-- what comes next of the lines of some bytes, and the bytes after it: a line, or the bytes that no LF ends, or nothing
abbrev pub NextLine : List ℕ → Option (Result (Bor (List ℕ)) Unended) → List ℕ → Type 0
NextLine bytes None after = (bytes ≡ []) × (after ≡ [])
NextLine bytes (Some (Ok line)) after = text_of bytes ≡ with_line line.now (text_of after)
NextLine bytes (Some (Err last)) after = (text_of bytes ≡ unended bytes) × (last.0.now ≡ bytes) × (0 < length bytes) × (after ≡ [])
