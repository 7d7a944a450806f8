-- Keywords told apart. Assumes nothing.
use Rattle.std.proofs.Common.{◌≡◌, ℕ, Bool, true, false, List, None, codes, refl}
use Rattle.std.specs.Str.{bytes_eq}
use Rattle.std.proofs.lemmas.Slice.Eq.{bytes_eq-Decides}
use Rattle.tokens.specs.Tokens.{Mark}
use Rattle.forms.specs.Forms.{act_with, form_by}

false_unless : (b : Bool) → (b ≡ true → ⊥) → b ≡ false
false_unless true other = absurd (other refl)
false_unless false other = refl

-- bytes that are not a word are told apart from it
other_word : (k w : List ℕ) → (k ≡ w → ⊥) → bytes_eq k w ≡ false
other_word k w other = false_unless (bytes_eq k w) (λ same. other ((bytes_eq-Decides k w).0 same))

-- what is no keyword of a step is none
pub act_with_none : (k : List ℕ) (m : Mark) → (k ≡ codes "sleep" → ⊥) → (k ≡ codes "spawn" → ⊥) → (k ≡ codes "wake" → ⊥) → (k ≡ codes "abort" → ⊥)
    → (k ≡ codes "stop" → ⊥) → (k ≡ codes "done" → ⊥) → (k ≡ codes "fault" → ⊥) → act_with k m ≡ None
act_with_none k m sleep spawn wake abort stop done fault =
    simp (other_word k _ sleep, other_word k _ spawn, other_word k _ wake, other_word k _ abort, other_word k _ stop, other_word k _ done, other_word k _ fault)

-- what is no keyword of a form is none
pub form_by_none : (k : List ℕ) (ms : List Mark) → (k ≡ codes "cycle" → ⊥) → (k ≡ codes "start" → ⊥) → (k ≡ codes "timeout" → ⊥) → (k ≡ codes "catch" → ⊥) → (k ≡ codes "task" → ⊥) → form_by k ms ≡ None
form_by_none k ms cycle start timeout catch task =
    simp (other_word k _ cycle, other_word k _ start, other_word k _ timeout, other_word k _ catch, other_word k _ task)
