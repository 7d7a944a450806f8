-- What an answer tells of the parts that it was made from. Assumes nothing.
use Rattle.std.proofs.Common.{◌≡◌, ℕ, Bool, true, false, cond, List, ◌∷◌, Some, None, Ok, Err, Option, Result, sym, refl}
use Rattle.std.specs.Option.{option_map}
use Rattle.std.specs.Str.{bytes_eq}
use Rattle.std.proofs.lemmas.Slice.Eq.{bytes_eq-Decides}
use Rattle.faults.specs.declared.fault.Fault.{Fault}
use Rattle.forms.specs.Forms.{bind, consed}
use Rattle.forms.specs.Meaning.{Act}
use Rattle.grammar.specs.Reading.{and_then}

pub none≢some : {A : Type 0} {x : A} → None ≡ Some x → ⊥
none≢some e = cc

pub some_same : {A : Type 0} {x y : A} → Some x ≡ Some y → x ≡ y
some_same e = cc

pub err≢ok : {A : Type 0} {x : A} {e : Fault} → Err e ≡ Ok x → ⊥
err≢ok h = cc

pub ok_same : {A : Type 0} {x y : A} → ◌≡◌ {A = Result A Fault} (Ok x) (Ok y) → x ≡ y
ok_same h = cc

pub cond_some : {A : Type 0} (t : Bool) (x y : A) → cond t (Some x) None ≡ Some y → (t ≡ true) × (x ≡ y)
cond_some true x y h = (refl, some_same h)
cond_some false x y h = absurd (none≢some h)

pub cond_ok : {A : Type 0} (t : Bool) (x y : A) (e : Fault) → cond t (Ok x) (Err e) ≡ Ok y → (t ≡ true) × (x ≡ y)
cond_ok true x y e h = (refl, ok_same h)
cond_ok false x y e h = absurd (err≢ok h)

pub mapped_some : {A B : Type 0} (f : A → B) (o : Option A) (y : B) → option_map f o ≡ Some y → (x : A) × (o ≡ Some x) × (y ≡ f x)
mapped_some f None y h = absurd (none≢some h)
mapped_some f (Some x) y h = (x, refl, sym (some_same h))

pub bind_some : {A B : Type 0} (o : Option A) (f : A → Option B) (y : B) → bind o f ≡ Some y → (x : A) × (o ≡ Some x) × (f x ≡ Some y)
bind_some None f y h = absurd (none≢some h)
bind_some (Some x) f y h = (x, refl, h)

pub consed_some : (o : Option Act) (more : Option (List Act)) (acts : List Act) → consed o more ≡ Some acts
    → (a : Act) × (rest : List Act) × (o ≡ Some a) × (more ≡ Some rest) × (acts ≡ a ∷ rest)
consed_some None more acts h = absurd (none≢some h)
consed_some (Some a) None acts h = absurd (none≢some h)
consed_some (Some a) (Some rest) acts h = (a, rest, refl, refl, sym (some_same h))

pub and_then_ok : {A B : Type 0} (r : Result A Fault) (f : A → Result B Fault) (y : B) → and_then r f ≡ Ok y → (x : A) × (r ≡ Ok x) × (f x ≡ Ok y)
and_then_ok (Ok x) f y h = (x, refl, h)
and_then_ok (Err e) f y h = absurd (err≢ok h)

-- an answer that a keyword chooses
pub by_keyword : {A C : Type 0} (k K : List ℕ) (x y : Option A) (a : A) → (k ≡ K → x ≡ Some a → C) → (y ≡ Some a → C) → cond (bytes_eq k K) x y ≡ Some a → C
by_keyword {A} {C} k K x y a this that h = by (bytes_eq k K) (bytes_eq-Decides k K).0 h
  where
    by : (t : Bool) → (t ≡ true → k ≡ K) → cond t x y ≡ Some a → C
    by true e h = this (e refl) h
    by false e h = that h
