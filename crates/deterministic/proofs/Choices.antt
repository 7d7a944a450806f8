-- What holds on each side of a choice holds of the choice.
use Rattle.std.proofs.Common.{◌≡◌, Some, None, Option, refl}
use Rattle.keyed.specs.Choices.{whether, given}

pub whether_by : {X Y : Type 0} (o : Option X) (P : Y → Type 0) (x y : Y) → (o ≡ None → P x) → ((e : X) → o ≡ Some e → P y) → P (whether o x y)
whether_by None P x y f g = f refl
whether_by (Some e) P x y f g = g e refl

pub given_by : {X Y : Type 0} (o : Option X) (P : Y → Type 0) (x : Y) (make : X → Y) → (o ≡ None → P x) → ((e : X) → o ≡ Some e → P (make e)) → P (given o x make)
given_by None P x make f g = f refl
given_by (Some e) P x make f g = g e refl
