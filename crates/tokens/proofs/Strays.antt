-- Where nothing is stray in a line, each mark of it is a token. Assumes nothing.
use Rattle.std.proofs.Common.{◌≡◌, ℕ, Bool, true, false, cond, not, ◌&&◌, eqb, List, [], ◌∷◌, is_some, Some, None, sym, refl, ◌∙◌}
use Rattle.std.proofs.lemmas.Bool.{and_parts, and_from}
use Rattle.tokens.specs.Numbers.{is_empty, is_number}
use Rattle.tokens.specs.Tokens.{Part, left, right, space, run, Mark, opening, closing, word, number, stray, Place, begun, ended, parted, separator, ends_word, joined, set_before, parts, named, marks, tokens_of, all_plain, is_word, is_token, all_tokens}

-- nothing is stray
unfoldable pub no_stray : List Mark → Bool
no_stray [] = true
no_stray (opening ∷ ms) = no_stray ms
no_stray (closing ∷ ms) = no_stray ms
no_stray (word w ∷ ms) = no_stray ms
no_stray (number w ∷ ms) = no_stray ms
no_stray (stray ∷ ms) = false

-- each run of bytes can be a word
runs_word : List Part → Bool
runs_word [] = true
runs_word (left ∷ ps) = runs_word ps
runs_word (right ∷ ps) = runs_word ps
runs_word (space ∷ ps) = runs_word ps
runs_word (run w ∷ ps) = is_word w && runs_word ps

runs_word_joined : (b : ℕ) (ps : List Part) → not (ends_word b) ≡ true → runs_word ps ≡ true → runs_word (joined b ps) ≡ true
unfolding runs_word
runs_word_joined b [] p h = rw p
runs_word_joined b (left ∷ ps) p h = rw p h
runs_word_joined b (right ∷ ps) p h = rw p h
runs_word_joined b (space ∷ ps) p h = rw p h
runs_word_joined b (run w ∷ ps) p h =
    let both = and_parts (is_word w) (runs_word ps) h in
    rw (p, (and_parts (not (is_empty w)) (all_plain w) both.0).1) both.1

runs_word_set_before : (b : ℕ) (ps : List Part) → runs_word ps ≡ true → runs_word (set_before (separator b) b ps) ≡ true
unfolding runs_word
runs_word_set_before b ps h = by (eqb b 32) (eqb b 40) (eqb b 41) (λ e. runs_word_joined b ps e h)
  where
    by : (s o c : Bool) → (not (is_some (cond s (Some space) (cond o (Some left) (cond c (Some right) None)))) ≡ true → runs_word (joined b ps) ≡ true)
        → runs_word (set_before (cond s (Some space) (cond o (Some left) (cond c (Some right) None))) b ps) ≡ true
    by true o c f = h
    by false true c f = h
    by false false true f = h
    by false false false f = f refl

runs_word_parts : (bs : List ℕ) → runs_word (parts bs) ≡ true
unfolding parts runs_word
runs_word_parts [] = refl
runs_word_parts (b ∷ bs) = runs_word_set_before b (parts bs) (runs_word_parts bs)

is_token_named : (w : List ℕ) → is_word w ≡ true → is_token (named w) ≡ true
is_token_named w h = by (is_number w) refl
  where
    by : (t : Bool) → is_number w ≡ t → is_token (cond t (number w) (word w)) ≡ true
    by true e = rw (h, e)
    by false e = rw (h, e)

no_stray_named : (w : List ℕ) (ms : List Mark) → no_stray (named w ∷ ms) ≡ no_stray ms
unfolding no_stray
no_stray_named w ms = by (is_number w)
  where
    by : (t : Bool) → no_stray (cond t (number w) (word w) ∷ ms) ≡ no_stray ms
    by true = refl
    by false = refl

-- a run that can be a word, before tokens that are all tokens if nothing is stray
all_tokens_run : (w : List ℕ) (ps : List Part) (ms : List Mark) → (is_word w && runs_word ps) ≡ true → no_stray (named w ∷ ms) ≡ true
    → (runs_word ps ≡ true → no_stray ms ≡ true → all_tokens ms ≡ true) → all_tokens (named w ∷ ms) ≡ true
unfolding all_tokens
all_tokens_run w ps ms h n more =
    let both = and_parts (is_word w) (runs_word ps) h in
    and_from (is_token (named w)) (all_tokens ms) (is_token_named w both.0) (more both.1 (sym (no_stray_named w ms) ∙ n))

all_tokens_marks : (p : Place) (ps : List Part) → runs_word ps ≡ true → no_stray (marks p ps) ≡ true → all_tokens (marks p ps) ≡ true
unfolding marks runs_word no_stray all_tokens
all_tokens_marks begun [] h n = refl
all_tokens_marks ended [] h n = refl
all_tokens_marks parted [] h n = n
all_tokens_marks begun (left ∷ ps) h n = all_tokens_marks begun ps h n
all_tokens_marks ended (left ∷ ps) h n = n
all_tokens_marks parted (left ∷ ps) h n = all_tokens_marks begun ps h n
all_tokens_marks begun (right ∷ ps) h n = all_tokens_marks ended ps h n
all_tokens_marks ended (right ∷ ps) h n = all_tokens_marks ended ps h n
all_tokens_marks parted (right ∷ ps) h n = n
all_tokens_marks begun (space ∷ ps) h n = n
all_tokens_marks ended (space ∷ ps) h n = all_tokens_marks parted ps h n
all_tokens_marks parted (space ∷ ps) h n = n
all_tokens_marks begun (run w ∷ ps) h n = all_tokens_run w ps (marks ended ps) h n (all_tokens_marks ended ps)
all_tokens_marks ended (run w ∷ ps) h n = n
all_tokens_marks parted (run w ∷ ps) h n = all_tokens_run w ps (marks ended ps) h n (all_tokens_marks ended ps)

-- where nothing is stray in a line, each mark of it is a token
pub all_tokens_line : (line : List ℕ) → no_stray (tokens_of line) ≡ true → all_tokens (tokens_of line) ≡ true
all_tokens_line line h = all_tokens_marks begun (parts line) (runs_word_parts line) h
