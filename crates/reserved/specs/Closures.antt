-- What a closure makes of what it is given.
use Rattle.std.specs.Prelude.{◌≡◌}

-- whatever the calls give is what the function gives
abbrev pub Computes : {A B : Type 0} → (A → B → Type 0) → (A → B) → Type 0
Computes gives f = (x : _) (y : _) → gives x y → y ≡ f x
