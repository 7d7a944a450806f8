-- Bytes that grow at their end. Assumes nothing.
use Rattle.std.specs.Prelude.{◌≡◌, ℕ, List, ◌++◌, Result, OnOk}

-- unless memory is wanting, what was there is followed by more
abbrev pub Grown : {A E : Type 0} → Result A E → List ℕ → List ℕ → List ℕ → Type 0
Grown r before after more = OnOk r (after ≡ before ++ more)
