-- What is printed: a line is a form, its word and its numbers in brackets, parted by single spaces.
use Rattle.std.specs.Prelude.{ℕ, List, [], ◌∷◌, ◌++◌, codes, decimal}
use Rattle.entry.specs.declared.Entry.{Entry}
use Rattle.entry.specs.declared.Entry.TheVariants as entry
use Rattle.reasons.specs.Numbers.{cause_number, ending_number, end_number, flag_number}
use Rattle.entry.specs.declared.report.Report.{Report}

-- each number in decimal digits after a space, then the closing bracket
abbrev pub numerals : List ℕ → List ℕ
numerals [] = codes ")"
numerals (n ∷ ns) = codes " " ++ (decimal n ++ numerals ns)

-- a form's text is the opening bracket, its word and its numbers
abbrev pub form : List ℕ → List ℕ → List ℕ
form word ns = codes "(" ++ (word ++ numerals ns)

-- an entry's text is its word with the ids, times and numbers that it holds
abbrev pub line_of : Entry → List ℕ
line_of (entry.Reg id) = form (codes "reg") (id ∷ [])
line_of (entry.Round drained) = form (codes "round") (drained ∷ [])
line_of (entry.Poll id called) = form (codes "poll") (id ∷ flag_number called ∷ [])
line_of (entry.Skip id) = form (codes "skip") (id ∷ [])
line_of (entry.Arm id time) = form (codes "arm") (id ∷ time ∷ [])
line_of (entry.Ring id time) = form (codes "ring") (id ∷ time ∷ [])
line_of (entry.Tick time) = form (codes "tick") (time ∷ [])
line_of (entry.Jump time) = form (codes "jump") (time ∷ [])
line_of (entry.Wake id cause) = form (codes "wake") (id ∷ cause_number cause ∷ [])
line_of (entry.Mark id) = form (codes "mark") (id ∷ [])
line_of (entry.Done id ending) = form (codes "done") (id ∷ ending_number ending ∷ [])
line_of (entry.End end) = form (codes "end") (end_number end ∷ [])

-- a report's text is its word with the five numbers in their order
abbrev pub report_line : Report → List ℕ
report_line r = form (codes "report") (r.rounds ∷ r.dealt ∷ r.undealt ∷ r.registered ∷ r.woken ∷ [])
