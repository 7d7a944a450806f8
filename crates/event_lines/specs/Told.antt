-- What the audit tells of the lines of an input.
--
-- told line    the digest after the line's event in hexadecimal digits, two spaces, and the line as it was written
-- outcome      what is told up to the first line that is no event, and which line that is
use Rattle.std.specs.Prelude.{ℕ, ◌+◌, ◌/◌, ◌%◌, cond, List, [], ◌∷◌, ◌++◌, Some, None, Ok, Err, codes, decimal, Option, Result, nat_lt}
use Rattle.auditor.specs.Events.{Event, digest_after, no_digest}
use Rattle.lines.specs.Lines.{text_of}
use Rattle.event_lines.specs.declared.event.Misread.{Misread}
use Rattle.event_lines.specs.declared.event.Trouble.{Trouble}
use Rattle.event_lines.specs.declared.event.Trouble.TheVariants.{NoEvent, NoId, NoValue}
use Rattle.event_lines.specs.Lines.{event_of}

-- the lowercase hexadecimal digit of a number below 16
abbrev pub hex_digit : ℕ → ℕ
hex_digit n = cond (nat_lt n 10) (48 + n) (87 + n)

-- the bytes in hexadecimal digits, two for each
abbrev pub hex_of : List ℕ → List ℕ
hex_of [] = []
hex_of (b ∷ bs) = hex_digit (b / 16) ∷ hex_digit (b % 16) ∷ hex_of bs

-- what is told of a line whose event brought the audit to this digest
abbrev pub told_line : List ℕ → List ℕ → List ℕ
told_line digest line = hex_of digest ++ (codes "  " ++ (line ++ 10 ∷ []))

-- what is told, and the first line that is no event
pub record Outcome : Type 0 where
  pub text : List ℕ
  pub misread : Option Misread

-- the digest after a line that is read so
abbrev pub digest_by : Result Event Trouble → List ℕ → List ℕ
digest_by (Ok e) digest = digest_after digest e
digest_by (Err t) digest = digest

-- what is told of a line that is read so
abbrev pub told_by : Result Event Trouble → List ℕ → List ℕ → List ℕ
told_by (Ok e) digest line = told_line (digest_after digest e) line
told_by (Err t) digest line = []

-- what is wrong with a line that is read so
abbrev pub trouble_by : Result Event Trouble → Option Trouble
trouble_by (Ok e) = None
trouble_by (Err t) = Some t

-- some text before what is told
abbrev pub prefixed : List ℕ → Outcome → Outcome
prefixed text o = record { text = text ++ o.text; misread = o.misread }

-- a line that is no event ends the telling
abbrev pub stop_at : ℕ → Option Trouble → Outcome → Outcome
stop_at n None o = o
stop_at n (Some t) o = record { text = []; misread = Some (record { line = n; trouble = t }) }

-- what is told of lines, of which the first has the number n, from a digest on
unfoldable pub outcome : List ℕ → ℕ → List (List ℕ) → Outcome
outcome digest n [] = record { text = []; misread = None }
outcome digest n (line ∷ lines) =
    stop_at n (trouble_by (event_of line)) (prefixed (told_by (event_of line) digest line) (outcome (digest_by (event_of line) digest) (n + 1) lines))

-- the bytes after the last LF are a line too, if there are any
abbrev pub last_line : List ℕ → List (List ℕ)
last_line [] = []
last_line (b ∷ bs) = (b ∷ bs) ∷ []

-- the lines of an input
abbrev pub lines_of : List ℕ → List (List ℕ)
lines_of bs = (text_of bs).lines ++ last_line (text_of bs).rest

-- what is told of a whole input
abbrev pub audited : List ℕ → Outcome
audited bs = outcome no_digest 1 (lines_of bs)

-- what is wrong with a line that is no event, in words
abbrev pub explained : Trouble → List ℕ
explained NoEvent = codes "no event; one is (process_task ID LABEL), (stop VALUE) or (stopped)"
explained NoId = codes "the id is no whole number from 0 to 18446744073709551615"
explained NoValue = codes "the stop value is no whole number from -2147483648 to 2147483647"

-- a line that is no event, by its number and what is wrong with it
abbrev pub misread_line : Misread → List ℕ
misread_line m = codes "line " ++ (decimal m.line ++ (codes ": " ++ explained m.trouble))
