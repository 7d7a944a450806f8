-- Lines without LF, and tokens whose bytes have none.
use Rattle.std.proofs.Common.{◌≡◌, ℕ, Bool, true, false, cond, not, eqb, List, [], ◌∷◌, ◌++◌, ℤ, decimal, sym, refl, subst}
use Rattle.std.proofs.lemmas.Bool.{and_parts, and_from, false≢true, not-true, not_from_false}
use Rattle.std.specs.Fmt.{signed_decimal}
use Rattle.tokens.specs.Numbers.{is_number}
use Rattle.tokens.specs.Tokens.{Mark, opening, closing, word, number, stray, Place, begun, ended, parted, named, due, spell, is_word, is_token, all_tokens}
use Rattle.grammar.specs.Reads.{no_break, Line}
use Rattle.grammar.specs.Spellable.{Fits, IsName}
use Rattle.grammar.proofs.Decimals.{is_name_decimal, is_number_decimal, Signed}

-- a byte that is no LF, and the bytes after it
no_break_parts : (t rest : Bool) → cond t false rest ≡ true → (t ≡ false) × (rest ≡ true)
no_break_parts true rest h = absurd (false≢true h)
no_break_parts false rest h = (refl, h)

pub no_break_append : (xs ys : List ℕ) → no_break xs ≡ true → no_break ys ≡ true → no_break (xs ++ ys) ≡ true
unfolding no_break
no_break_append [] ys hx hy = hy
no_break_append (x ∷ xs) ys hx hy =
    let both = no_break_parts (eqb x 10) (no_break xs) hx in
    rw both.0 (no_break_append xs ys both.1 hy)

pub no_break_front : (xs ys : List ℕ) → no_break (xs ++ ys) ≡ true → no_break xs ≡ true
unfolding no_break
no_break_front [] ys h = refl
no_break_front (x ∷ xs) ys h =
    let both = no_break_parts (eqb x 10) (no_break (xs ++ ys)) h in
    rw both.0 (no_break_front xs ys both.1)

pub no_break_back : (xs ys : List ℕ) → no_break (xs ++ ys) ≡ true → no_break ys ≡ true
unfolding no_break
no_break_back [] ys h = h
no_break_back (x ∷ xs) ys h = no_break_back xs ys (no_break_parts (eqb x 10) (no_break (xs ++ ys)) h).1

-- the mark is a token, and its bytes have no LF
abbrev pub Sound : Mark → Type 0
Sound opening = Unit {0}
Sound closing = Unit {0}
Sound (word w) = IsName w × (is_number w ≡ false)
Sound (number w) = IsName w × (is_number w ≡ true)
Sound stray = ⊥

-- each mark is a token whose bytes have no LF
abbrev pub AllSound : List Mark → Type 0
AllSound [] = Unit {0}
AllSound (m ∷ ms) = Sound m × AllSound ms

pub all_sound_append : (xs ys : List Mark) → AllSound xs → AllSound ys → AllSound (xs ++ ys)
all_sound_append [] ys hx hy = hy
all_sound_append (x ∷ xs) ys hx hy = (hx.0, all_sound_append xs ys hx.1 hy)

pub all_sound_parts : (xs ys : List Mark) → AllSound (xs ++ ys) → AllSound xs × AllSound ys
all_sound_parts [] ys h = (tt, h)
all_sound_parts (x ∷ xs) ys h =
    let both = all_sound_parts xs ys h.1 in
    ((h.0, both.0), both.1)

pub sound_named : (w : List ℕ) → IsName w → Sound (named w)
sound_named w h = go (is_number w) refl
  where
    go : (t : Bool) → is_number w ≡ t → Sound (cond t (number w) (word w))
    go true e = (h, e)
    go false e = (h, e)

pub named_sound : (w : List ℕ) → Sound (named w) → IsName w
named_sound w = go (is_number w)
  where
    go : (t : Bool) → Sound (cond t (number w) (word w)) → IsName w
    go true h = h.0
    go false h = h.0

pub sound_decimal : (n : ℕ) → Fits 64 n → Sound (number (decimal n))
sound_decimal n h = (is_name_decimal n h, is_number_decimal n h)

pub sound_signed : (z : ℤ) → Signed z → Sound (number (signed_decimal z))
sound_signed z h = (h.is_name, h.reads_as_number)

is_token_sound : (m : Mark) → Sound m → is_token m ≡ true
is_token_sound opening h = refl
is_token_sound closing h = refl
is_token_sound (word w) h = and_from (is_word w) (not (is_number w)) h.0.0 (not_from_false (is_number w) h.1)
is_token_sound (number w) h = and_from (is_word w) (is_number w) h.0.0 h.1
is_token_sound stray h = absurd h

all_tokens_sound : (ms : List Mark) → AllSound ms → all_tokens ms ≡ true
unfolding all_tokens
all_tokens_sound [] h = refl
all_tokens_sound (m ∷ ms) h = and_from (is_token m) (all_tokens ms) (is_token_sound m h.0) (all_tokens_sound ms h.1)

no_break_due : (p : Place) → no_break (due p) ≡ true
unfolding no_break
no_break_due begun = refl
no_break_due ended = refl
no_break_due parted = refl

no_break_spell : (p : Place) (ms : List Mark) → AllSound ms → no_break (spell p ms) ≡ true
unfolding spell no_break
no_break_spell p [] h = refl
no_break_spell p (opening ∷ ms) h = no_break_append (due p) (40 ∷ spell begun ms) (no_break_due p) (no_break_spell begun ms h.1)
no_break_spell p (closing ∷ ms) h = no_break_spell ended ms h.1
no_break_spell p (word w ∷ ms) h =
    no_break_append (due p) (w ++ spell ended ms) (no_break_due p) (no_break_append w (spell ended ms) h.0.0.1 (no_break_spell ended ms h.1))
no_break_spell p (number w ∷ ms) h =
    no_break_append (due p) (w ++ spell ended ms) (no_break_due p) (no_break_append w (spell ended ms) h.0.0.1 (no_break_spell ended ms h.1))
no_break_spell p (stray ∷ ms) h = absurd h.0

-- what tokens without LF spell is a line of which they say P
pub line_spelled : (P : List Mark → Type 0) (ms : List Mark) → AllSound ms → P ms → Line P (spell begun ms)
line_spelled P ms s h = (ms, all_tokens_sound ms s, refl, no_break_spell begun ms s, h)

all_sound_spell : (p : Place) (ms : List Mark) → all_tokens ms ≡ true → no_break (spell p ms) ≡ true → AllSound ms
unfolding all_tokens spell no_break
all_sound_spell p [] a b = tt
all_sound_spell p (opening ∷ ms) a b = (tt, all_sound_spell begun ms a (no_break_back (due p) (40 ∷ spell begun ms) b))
all_sound_spell p (closing ∷ ms) a b = (tt, all_sound_spell ended ms a b)
all_sound_spell p (word w ∷ ms) a b =
    let both = and_parts (is_token (word w)) (all_tokens ms) a in
    let token = and_parts (is_word w) (not (is_number w)) both.0 in
    let bytes = no_break_back (due p) (w ++ spell ended ms) b in
    (((token.0, no_break_front w (spell ended ms) bytes), not-true (is_number w) token.1), all_sound_spell ended ms both.1 (no_break_back w (spell ended ms) bytes))
all_sound_spell p (number w ∷ ms) a b =
    let both = and_parts (is_token (number w)) (all_tokens ms) a in
    let token = and_parts (is_word w) (is_number w) both.0 in
    let bytes = no_break_back (due p) (w ++ spell ended ms) b in
    (((token.0, no_break_front w (spell ended ms) bytes), token.1), all_sound_spell ended ms both.1 (no_break_back w (spell ended ms) bytes))
all_sound_spell p (stray ∷ ms) a b = absurd (false≢true a)

-- the tokens of a line have no LF
pub all_sound_line : (P : List Mark → Type 0) (l : List ℕ) (h : Line P l) → AllSound h.0
all_sound_line P l h = all_sound_spell begun h.0 h.1 (subst (λ x. no_break x ≡ true) (sym h.2) h.3)
