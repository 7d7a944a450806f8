-- The entries of a kind, counted one by one.
use Rattle.std.specs.Prelude.{ℕ, Bool, cond}
use Rattle.entry.specs.declared.Entry.{Entry}

-- one for an entry that passes the test, else none
abbrev pub one : (Entry → Bool) → Entry → ℕ
one test e = cond (test e) 1 0
