-- What an answer says of its refusal.
use Rattle.std.proofs.Common.{◌≡◌, ℕ, true, eqb, Some, None, Ok, Err, Option, refl, ap, arith}
use Rattle.std.proofs.lemmas.Bool.{eqb-true, false≢true}
use Rattle.std.specs.Option.{option_eq}
use Rattle.keyed.specs.Choices.{answered, holds}

pub answered_ok : {X E : Type 0} (o : Option E) (x y : X) → answered o x ≡ Ok y → (o ≡ None) × (x ≡ y)
answered_ok None x y h = (refl, cc)
answered_ok (Some e) x y h = let z : ◌≡◌ {A = ℕ} 0 1 = cc in absurd (omega arith)

pub answered_err : {X E : Type 0} (o : Option E) (x : X) (e : E) → answered o x ≡ Err e → o ≡ Some e
answered_err None x e h = cc
answered_err (Some d) x e h = cc

pub holds_is : (k : ℕ) (o : Option ℕ) → holds k o ≡ true → o ≡ Some k
holds_is k None h = absurd (false≢true h)
holds_is k (Some n) h = ap Some (eqb-true n k h)

-- the library's `==` of options answers it
pub holds_eq : (k : ℕ) (o : Option ℕ) → option_eq eqb o (Some k) ≡ holds k o
holds_eq k None = refl
holds_eq k (Some n) = refl
