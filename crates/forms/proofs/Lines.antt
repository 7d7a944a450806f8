-- The form of a line whose opening bracket and keyword are known. Assumes nothing.
use Rattle.std.proofs.Common.{◌≡◌, ℕ, Bool, true, cond, List, [], ◌∷◌, Some, None, sym, refl, ap, ◌∙◌}
use Rattle.tokens.specs.Cursor.{later}
use Rattle.tokens.specs.Expected.{opens, first_word}
use Rattle.tokens.specs.Tokens.{Mark, opening, closing, word, number, stray}
use Rattle.forms.specs.Forms.{bind, form_by, form_after, form_in}

form_after_word : (ms : List Mark) → form_after ms ≡ bind (first_word ms) (λ k. form_by k (later ms))
form_after_word [] = refl
form_after_word (opening ∷ ms) = refl
form_after_word (closing ∷ ms) = refl
form_after_word (word k ∷ ms) = refl
form_after_word (number k ∷ ms) = refl
form_after_word (stray ∷ ms) = refl

form_in_opens : (ms : List Mark) → form_in ms ≡ cond (opens ms) (form_after (later ms)) None
form_in_opens [] = refl
form_in_opens (opening ∷ ms) = refl
form_in_opens (closing ∷ ms) = refl
form_in_opens (word w ∷ ms) = refl
form_in_opens (number w ∷ ms) = refl
form_in_opens (stray ∷ ms) = refl

-- the form is that of its keyword and what comes after it
pub form_by_keyword : (k : List ℕ) (opened : Bool) (line named rest : List Mark) → opened ≡ true → opened ≡ opens line → named ≡ later line → Some k ≡ first_word named → rest ≡ later named → form_by k rest ≡ form_in line
form_by_keyword k opened line named rest is o n w r =
    ap (form_by k) r
    ∙ ap (λ f. bind f (λ word. form_by word (later named))) w
    ∙ sym (form_after_word named)
    ∙ ap form_after n
    ∙ ap (λ b. cond b (form_after (later line)) None) (sym is ∙ o)
    ∙ sym (form_in_opens line)
