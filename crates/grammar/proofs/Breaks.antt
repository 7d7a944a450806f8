-- Bytes fall into lines that LF ends, in one way. Assumes nothing.
use Rattle.std.proofs.Common.{◌≡◌, ℕ, Bool, true, false, cond, eqb, List, [], ◌∷◌, ◌++◌, sym, refl, ap, ◌∙◌, append-nil}
use Rattle.std.proofs.lemmas.Bool.{eqb-true, false≢true}
use Rattle.lines.specs.Lines.{Text, led, begun_by, text_of, bytes_of}
use Rattle.grammar.specs.Reads.{no_break}

-- no line has LF in it
abbrev pub NoBreaks : List (List ℕ) → Type 0
NoBreaks [] = Unit {0}
NoBreaks (l ∷ ls) = (no_break l ≡ true) × NoBreaks ls

pub no_breaks_append : (ks ls : List (List ℕ)) → NoBreaks ks → NoBreaks ls → NoBreaks (ks ++ ls)
no_breaks_append [] ls h g = g
no_breaks_append (k ∷ ks) ls h g = (h.0, no_breaks_append ks ls h.1 g)

-- the bytes of a text
said : Text → List ℕ
said t = bytes_of t.lines ++ t.rest

said_led : (b : ℕ) (ls : List (List ℕ)) (rest : List ℕ) → said (led b ls rest) ≡ b ∷ (bytes_of ls ++ rest)
unfolding bytes_of said
said_led b [] rest = refl
said_led b (l ∷ ls) rest = refl

said_begun_by : (b : ℕ) (t : Text) → said (begun_by b t) ≡ b ∷ said t
unfolding bytes_of said
said_begun_by b t = by (eqb b 10) (eqb-true b 10)
  where
    by : (e : Bool) → (e ≡ true → b ≡ 10) → said (cond e (record { lines = [] ∷ t.lines; rest = t.rest }) (led b t.lines t.rest)) ≡ b ∷ said t
    by true f = ap (λ x. x ∷ said t) (sym (f refl))
    by false f = said_led b t.lines t.rest

said_text_of : (bs : List ℕ) → said (text_of bs) ≡ bs
unfolding text_of said bytes_of
said_text_of [] = refl
said_text_of (b ∷ bs) = said_begun_by b (text_of bs) ∙ ap (λ x. b ∷ x) (said_text_of bs)

-- bytes that end with LF are those of their lines
pub bytes_of_text_of : (bs : List ℕ) → (text_of bs).rest ≡ [] → bs ≡ bytes_of (text_of bs).lines
unfolding said
bytes_of_text_of bs e = sym (said_text_of bs) ∙ ap (λ x. bytes_of (text_of bs).lines ++ x) e ∙ append-nil (bytes_of (text_of bs).lines)

no_break_parts : (b : ℕ) (l : List ℕ) → no_break (b ∷ l) ≡ true → (eqb b 10 ≡ false) × (no_break l ≡ true)
unfolding no_break
no_break_parts b l h = by (eqb b 10) h
  where
    by : (e : Bool) → cond e false (no_break l) ≡ true → (e ≡ false) × (no_break l ≡ true)
    by true h = absurd (false≢true h)
    by false h = (refl, h)

text_of_line : (l bs : List ℕ) → no_break l ≡ true → text_of (l ++ (10 ∷ bs)) ≡ record { lines = l ∷ (text_of bs).lines; rest = (text_of bs).rest }
unfolding text_of
text_of_line [] bs h = refl
text_of_line (b ∷ l) bs h = let both = no_break_parts b l h in ap (begun_by b) (text_of_line l bs both.1) ∙ rw both.0

-- lines without LF are those of their bytes
pub text_of_bytes_of : (ls : List (List ℕ)) → NoBreaks ls → text_of (bytes_of ls) ≡ record { lines = ls; rest = [] }
unfolding text_of bytes_of
text_of_bytes_of [] h = refl
text_of_bytes_of (l ∷ ls) h = text_of_line l (bytes_of ls) h.0 ∙ ap (λ (t : Text). record { lines = l ∷ t.lines; rest = t.rest }) (text_of_bytes_of ls h.1)

led_unbroken : (b : ℕ) (ls : List (List ℕ)) (rest : List ℕ) → eqb b 10 ≡ false → NoBreaks ls → NoBreaks (led b ls rest).lines
unfolding no_break
led_unbroken b [] rest e h = tt
led_unbroken b (l ∷ ls) rest e h = (rw e h.0, h.1)

begun_by_unbroken : (b : ℕ) (t : Text) → NoBreaks t.lines → NoBreaks (begun_by b t).lines
unfolding no_break
begun_by_unbroken b t h = by (eqb b 10) refl
  where
    by : (e : Bool) → eqb b 10 ≡ e → NoBreaks (cond e (record { lines = [] ∷ t.lines; rest = t.rest }) (led b t.lines t.rest)).lines
    by true e = (refl, h)
    by false e = led_unbroken b t.lines t.rest e h

pub text_of_unbroken : (bs : List ℕ) → NoBreaks (text_of bs).lines
unfolding text_of
text_of_unbroken [] = tt
text_of_unbroken (b ∷ bs) = begun_by_unbroken b (text_of bs) (text_of_unbroken bs)
