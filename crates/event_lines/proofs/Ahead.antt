-- What an answer to a question about the next token tells of the tokens ahead.
use Rattle.std.proofs.Common.{◌≡◌, ℕ, true, ◌⊎◌, List, [], ◌∷◌, Some, refl, ap, inl, inr}
use Rattle.std.proofs.lemmas.Option.{same_Some}
use Rattle.tokens.specs.Cursor.{later}
use Rattle.tokens.specs.Expected.{opens, first_word, first_number, first_name, is_over, closes}
use Rattle.tokens.specs.Tokens.{Mark, opening, closing, word, number, stray}

pub opens_is : (ms : List Mark) → opens ms ≡ true → ms ≡ opening ∷ later ms
opens_is [] e = cc
opens_is (opening ∷ ms) e = refl
opens_is (closing ∷ ms) e = cc
opens_is (word w ∷ ms) e = cc
opens_is (number w ∷ ms) e = cc
opens_is (stray ∷ ms) e = cc

pub word_is : (ms : List Mark) (w : List ℕ) → first_word ms ≡ Some w → ms ≡ word w ∷ later ms
word_is [] w e = cc
word_is (opening ∷ ms) w e = cc
word_is (closing ∷ ms) w e = cc
word_is (word v ∷ ms) w e = cc
word_is (number v ∷ ms) w e = cc
word_is (stray ∷ ms) w e = cc

pub number_is : (ms : List Mark) (w : List ℕ) → first_number ms ≡ Some w → ms ≡ number w ∷ later ms
number_is [] w e = cc
number_is (opening ∷ ms) w e = cc
number_is (closing ∷ ms) w e = cc
number_is (word v ∷ ms) w e = cc
number_is (number v ∷ ms) w e = cc
number_is (stray ∷ ms) w e = cc

pub name_is : (ms : List Mark) (w : List ℕ) → first_name ms ≡ Some w → (m : Mark) × (ms ≡ m ∷ later ms) × ((m ≡ word w) ⊎ (m ≡ number w))
name_is [] w e = absurd cc
name_is (opening ∷ ms) w e = absurd cc
name_is (closing ∷ ms) w e = absurd cc
name_is (word v ∷ ms) w e = (word v, refl, inl (ap word (same_Some v w e)))
name_is (number v ∷ ms) w e = (number v, refl, inr (ap number (same_Some v w e)))
name_is (stray ∷ ms) w e = absurd cc

over_is : (ms : List Mark) → is_over ms ≡ true → ms ≡ []
over_is [] e = refl
over_is (m ∷ ms) e = cc

pub closes_is : (ms : List Mark) → closes ms ≡ true → ms ≡ closing ∷ []
closes_is [] e = cc
closes_is (opening ∷ ms) e = cc
closes_is (closing ∷ ms) e = ap (λ rest. closing ∷ rest) (over_is ms e)
closes_is (word w ∷ ms) e = cc
closes_is (number w ∷ ms) e = cc
closes_is (stray ∷ ms) e = cc
