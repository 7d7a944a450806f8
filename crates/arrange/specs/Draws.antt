-- What a source of draws gives. Assumes nothing.
use Rattle.std.specs.Prelude.{ℕ}

-- one draw, and the source's value after it
pub record Drawn (V : Type 0) : Type 0 where
  pub draw : ℕ
  pub value : V
