-- The kinds of entry that the totals tell apart.
use Rattle.std.specs.Prelude.{Bool, true, false}
use Rattle.entry.specs.declared.Entry.{Entry}
use Rattle.entry.specs.declared.Entry.TheVariants as entry

-- an entry is a poll, a skip, a registration, a wake, a ring or none of these
pub data Kind : Type 0 where
  poll : Kind
  skip : Kind
  registration : Kind
  wake : Kind
  ring : Kind
  other : Kind

-- each form has its kind
abbrev pub kind_of : Entry → Kind
kind_of (entry.Reg id) = registration
kind_of (entry.Round drained) = other
kind_of (entry.Poll id called) = poll
kind_of (entry.Skip id) = skip
kind_of (entry.Arm id time) = other
kind_of (entry.Ring id time) = ring
kind_of (entry.Tick time) = other
kind_of (entry.Jump time) = other
kind_of (entry.Wake id cause) = wake
kind_of (entry.Mark id) = other
kind_of (entry.Done id ending) = other
kind_of (entry.End end) = other

-- one answer for each kind
abbrev pub by_kind : {X : Type 0} → X → X → X → X → X → X → Kind → X
by_kind p s g w r o poll = p
by_kind p s g w r o skip = s
by_kind p s g w r o registration = g
by_kind p s g w r o wake = w
by_kind p s g w r o ring = r
by_kind p s g w r o other = o

-- the entry is a poll
abbrev pub is_poll : Entry → Bool
is_poll e = by_kind true false false false false false (kind_of e)

-- the entry is a skip
abbrev pub is_skip : Entry → Bool
is_skip e = by_kind false true false false false false (kind_of e)

-- the entry is a registration
abbrev pub is_registration : Entry → Bool
is_registration e = by_kind false false true false false false (kind_of e)

-- the entry is a wake
abbrev pub is_wake : Entry → Bool
is_wake e = by_kind false false false true false false (kind_of e)

-- the entry is a ring
abbrev pub is_ring : Entry → Bool
is_ring e = by_kind false false false false true false (kind_of e)
