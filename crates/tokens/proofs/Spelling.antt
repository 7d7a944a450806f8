-- The tokens of a line are those that spell it, and no others. Assumes nothing.
use Rattle.std.proofs.Common.{◌≡◌, ℕ, Bool, true, false, cond, not, ◌&&◌, eqb, List, [], ◌∷◌, ◌++◌, is_some, Some, None, Option, sym, refl, ap, ◌∙◌}
use Rattle.std.proofs.lemmas.Bool.{eqb-true, false≢true, and_parts, not-true}
use Rattle.tokens.specs.Numbers.{is_number}
use Rattle.tokens.specs.Tokens.{Part, left, right, space, run, Mark, opening, closing, word, number, stray, Place, begun, ended, parted, separator, ends_word, joined, set_before, parts, named, marks, tokens_of, due, spell, all_plain, is_word, is_token, all_tokens, Spelled}

-- the bytes of some parts
flat : List Part → List ℕ
flat [] = []
flat (left ∷ ps) = 40 ∷ flat ps
flat (right ∷ ps) = 41 ∷ flat ps
flat (space ∷ ps) = 32 ∷ flat ps
flat (run w ∷ ps) = w ++ flat ps

flat_joined : (b : ℕ) (ps : List Part) → flat (joined b ps) ≡ b ∷ flat ps
unfolding flat
flat_joined b [] = refl
flat_joined b (left ∷ ps) = refl
flat_joined b (right ∷ ps) = refl
flat_joined b (space ∷ ps) = refl
flat_joined b (run w ∷ ps) = refl

flat_before : (b : ℕ) (ps : List Part) → flat (set_before (separator b) b ps) ≡ b ∷ flat ps
unfolding flat
flat_before b ps = by (eqb b 32) (eqb b 40) (eqb b 41) (eqb-true b 32) (eqb-true b 40) (eqb-true b 41)
  where
    by : (t u v : Bool) → (t ≡ true → b ≡ 32) → (u ≡ true → b ≡ 40) → (v ≡ true → b ≡ 41)
        → flat (set_before (cond t (Some space) (cond u (Some left) (cond v (Some right) None))) b ps) ≡ b ∷ flat ps
    by true u v e f g = ap (λ (c : ℕ). c ∷ flat ps) (sym (e refl))
    by false true v e f g = ap (λ (c : ℕ). c ∷ flat ps) (sym (f refl))
    by false false true e f g = ap (λ (c : ℕ). c ∷ flat ps) (sym (g refl))
    by false false false e f g = flat_joined b ps

-- the parts of some bytes have these bytes
flat_parts : (bs : List ℕ) → flat (parts bs) ≡ bs
unfolding flat parts
flat_parts [] = refl
flat_parts (b ∷ bs) = flat_before b (parts bs) ∙ ap (λ (l : List ℕ). b ∷ l) (flat_parts bs)

-- a word spells itself, whether it looks like a number or not
spell_named : (p : Place) (w : List ℕ) (ms : List Mark) → spell p (named w ∷ ms) ≡ due p ++ (w ++ spell ended ms)
unfolding spell
spell_named p w ms = by (is_number w)
  where
    by : (t : Bool) → spell p (cond t (number w) (word w) ∷ ms) ≡ due p ++ (w ++ spell ended ms)
    by true = refl
    by false = refl

later_tokens : (m : Mark) (ms : List Mark) → all_tokens (m ∷ ms) ≡ true → all_tokens ms ≡ true
unfolding all_tokens
later_tokens m ms h = (and_parts (is_token m) (all_tokens ms) h).1

-- after a space a token comes that has the space before it
spell_parted : (ps : List Part) → all_tokens (marks parted ps) ≡ true → spell ended (marks parted ps) ≡ 32 ∷ spell parted (marks parted ps)
unfolding marks spell all_tokens
spell_parted [] h = absurd (false≢true h)
spell_parted (left ∷ ps) h = refl
spell_parted (right ∷ ps) h = absurd (false≢true h)
spell_parted (space ∷ ps) h = absurd (false≢true h)
spell_parted (run w ∷ ps) h = spell_named ended w (marks ended ps) ∙ ap (λ (l : List ℕ). 32 ∷ l) (sym (spell_named parted w (marks ended ps)))

-- where nothing is stray, the tokens of some parts spell the parts' bytes
spell_marks : (p : Place) (ps : List Part) → all_tokens (marks p ps) ≡ true → spell p (marks p ps) ≡ flat ps
unfolding marks spell all_tokens flat
spell_marks begun [] h = refl
spell_marks ended [] h = refl
spell_marks parted [] h = absurd (false≢true h)
spell_marks begun (left ∷ ps) h = ap (λ (l : List ℕ). 40 ∷ l) (spell_marks begun ps h)
spell_marks ended (left ∷ ps) h = absurd (false≢true h)
spell_marks parted (left ∷ ps) h = ap (λ (l : List ℕ). 40 ∷ l) (spell_marks begun ps h)
spell_marks begun (right ∷ ps) h = ap (λ (l : List ℕ). 41 ∷ l) (spell_marks ended ps h)
spell_marks ended (right ∷ ps) h = ap (λ (l : List ℕ). 41 ∷ l) (spell_marks ended ps h)
spell_marks parted (right ∷ ps) h = absurd (false≢true h)
spell_marks begun (space ∷ ps) h = absurd (false≢true h)
spell_marks ended (space ∷ ps) h = spell_parted ps h ∙ ap (λ (l : List ℕ). 32 ∷ l) (spell_marks parted ps h)
spell_marks parted (space ∷ ps) h = absurd (false≢true h)
spell_marks begun (run w ∷ ps) h = spell_named begun w (marks ended ps) ∙ ap (λ (l : List ℕ). w ++ l) (spell_marks ended ps (later_tokens (named w) (marks ended ps) h))
spell_marks ended (run w ∷ ps) h = absurd (false≢true h)
spell_marks parted (run w ∷ ps) h = spell_named parted w (marks ended ps) ∙ ap (λ (l : List ℕ). w ++ l) (spell_marks ended ps (later_tokens (named w) (marks ended ps) h))

-- bytes at which a word ends: a byte before them is a run of its own
abbrev Stops : List ℕ → Type 0
Stops r = (b : ℕ) → joined b (parts r) ≡ run (b ∷ []) ∷ parts r

spelled_stops : (ms : List Mark) → Stops (spell ended ms)
unfolding parts spell
spelled_stops [] b = refl
spelled_stops (opening ∷ ms) b = refl
spelled_stops (closing ∷ ms) b = refl
spelled_stops (word w ∷ ms) b = refl
spelled_stops (number w ∷ ms) b = refl
spelled_stops (stray ∷ ms) b = refl

no_separator : (o : Option Part) → not (is_some o) ≡ true → o ≡ None
no_separator None h = refl
no_separator (Some p) h = absurd (false≢true h)

-- a word before such bytes is one run
parts_append : (b : ℕ) (w r : List ℕ) → not (ends_word b) ≡ true → all_plain w ≡ true → Stops r → parts (b ∷ (w ++ r)) ≡ run (b ∷ w) ∷ parts r
unfolding parts
parts_append b [] r e plain stops = ap (λ (o : Option Part). set_before o b (parts r)) (no_separator (separator b) e) ∙ stops b
parts_append b (c ∷ w) r e plain stops =
    let both = and_parts (not (ends_word c)) (all_plain w) plain in
    ap (λ (o : Option Part). set_before o b (parts (c ∷ (w ++ r)))) (no_separator (separator b) e)
    ∙ ap (joined b) (parts_append c w r both.0 both.1 stops)

parts_of_word : (w r : List ℕ) → is_word w ≡ true → Stops r → parts (w ++ r) ≡ run w ∷ parts r
parts_of_word [] r h stops = absurd (false≢true h)
parts_of_word (b ∷ w) r h stops =
    let both = and_parts (not (ends_word b)) (all_plain w) h in
    parts_append b w r both.0 both.1 stops

-- a line may be at a beginning or after a word or a form
abbrev placed : Bool → Place
placed t = cond t begun ended

-- a word that was spelled is read as that word
marks_word : (t : Bool) (w : List ℕ) (ms : List Mark) → is_word w ≡ true → marks (placed t) (parts (due (placed t) ++ (w ++ spell ended ms))) ≡ named w ∷ marks ended (parts (spell ended ms))
unfolding marks parts
marks_word true w ms h = ap (marks begun) (parts_of_word w (spell ended ms) h (spelled_stops ms))
marks_word false w ms h = ap (marks parted) (parts_of_word w (spell ended ms) h (spelled_stops ms))

-- the tokens that spell some bytes are read from them again
marks_spell : (t : Bool) (ms : List Mark) → all_tokens ms ≡ true → marks (placed t) (parts (spell (placed t) ms)) ≡ ms
unfolding marks parts spell all_tokens
marks_spell true [] h = refl
marks_spell false [] h = refl
marks_spell true (opening ∷ ms) h = ap (λ (l : List Mark). opening ∷ l) (marks_spell true ms h)
marks_spell false (opening ∷ ms) h = ap (λ (l : List Mark). opening ∷ l) (marks_spell true ms h)
marks_spell true (closing ∷ ms) h = ap (λ (l : List Mark). closing ∷ l) (marks_spell false ms h)
marks_spell false (closing ∷ ms) h = ap (λ (l : List Mark). closing ∷ l) (marks_spell false ms h)
marks_spell t (word w ∷ ms) h =
    let both = and_parts (is_word w && not (is_number w)) (all_tokens ms) h in
    let parts_of = and_parts (is_word w) (not (is_number w)) both.0 in
    marks_word t w ms parts_of.0
    ∙ ap (λ (n : Bool). cond n (number w) (word w) ∷ marks ended (parts (spell ended ms))) (not-true (is_number w) parts_of.1)
    ∙ ap (λ (l : List Mark). word w ∷ l) (marks_spell false ms both.1)
marks_spell t (number w ∷ ms) h =
    let both = and_parts (is_word w && is_number w) (all_tokens ms) h in
    let parts_of = and_parts (is_word w) (is_number w) both.0 in
    marks_word t w ms parts_of.0
    ∙ ap (λ (n : Bool). cond n (number w) (word w) ∷ marks ended (parts (spell ended ms))) parts_of.1
    ∙ ap (λ (l : List Mark). number w ∷ l) (marks_spell false ms both.1)
marks_spell t (stray ∷ ms) h = absurd (false≢true h)

pub tokens_spelled : (line : List ℕ) → Spelled line
tokens_spelled line = (
  λ h. spell_marks begun (parts line) h ∙ flat_parts line,
  λ ms h e. ap tokens_of (sym e) ∙ marks_spell true ms h,
)
