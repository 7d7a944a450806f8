-- What a ledger stands for, and what writing makes of it.
--
-- Words: log, the entries written, first to last; blank, the old content of the places left.
use Rattle.std.specs.Prelude.{ℕ, Bool, ◌&&◌, List, [], ◌∷◌, ◌++◌, length, take, drop, vec_items, nat_le}
use Rattle.entry.specs.declared.Entry.{Entry}
use Rattle.ledger.specs.declared.Ledger.{Ledger}

-- a book is what is written and what is blank
pub record Book : Type 0 where
  pub log : List Entry
  pub blank : List Entry

-- memory whose first n entries are written has these as log, and the others as blank
abbrev pub book_of : ℕ → List Entry → Book
book_of n memory = record { log = take n memory; blank = drop n memory }

-- a ledger's book is that of its memory
abbrev pub view : Ledger → Book
view l = book_of l.used (vec_items l.memory)

-- memory makes a ledger if it has 1,024 to 65,536 entries
abbrev pub right_size : List Entry → Bool
right_size memory = nat_le 1024 (length memory) && nat_le (length memory) 65536

-- memory of another size is refused by this number
abbrev pub wrong_size_number : ℕ
wrong_size_number = 4

-- at first nothing is written, and all of the memory is blank
abbrev pub empty : List Entry → Book
empty memory = record { log = []; blank = memory }

-- as many entries are free as are blank
abbrev pub free : Book → ℕ
free b = length b.blank

-- all but the first
abbrev pub rest : List Entry → List Entry
rest [] = []
rest (e ∷ es) = es

-- writing puts the entry at the end of the log, in place of the first blank one
abbrev pub written : Entry → Book → Book
written e b = record { log = b.log ++ e ∷ []; blank = rest b.blank }

-- the memory of a book is what is written, then what is blank
abbrev pub whole : Book → List Entry
whole b = b.log ++ b.blank
