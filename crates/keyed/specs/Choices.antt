-- What is made of an option: named dispatchers, so that an equation on the option carries over.
use Rattle.std.specs.Prelude.{ℕ, Bool, false, Some, None, Ok, Err, Option, Result, ◌==◌}

-- the first where there is nothing, the second where there is something
abbrev pub whether : {X Y : Type 0} → Option X → Y → Y → Y
whether None nothing something = nothing
whether (Some x) nothing something = something

-- what is made of what is there, or a value for where there is nothing
abbrev pub given : {X Y : Type 0} → Option X → Y → (X → Y) → Y
given None nothing make = nothing
given (Some x) nothing make = make x

-- the refusal where there is one, else the value
abbrev pub answered : {X E : Type 0} → Option E → X → Result X E
answered None x = Ok x
answered (Some e) x = Err e

-- the option holds the number k
abbrev pub holds : ℕ → Option ℕ → Bool
holds k None = false
holds k (Some n) = n == k
