-- The tokens of a line, and how tokens spell a line. Assumes nothing.
--
--   part    a bracket, a space, or a longest run of other bytes
--   mark    a token as its bytes tell it; `stray` is what stands where no token may
--   place   where in a line one is: at the start of the line or of a form, after a word or a form, or after a space
use Rattle.std.specs.Prelude.{◌≡◌, ℕ, suc, Bool, true, false, cond, not, ◌&&◌, List, [], ◌∷◌, ◌++◌, is_some, Some, None, Option, ◌==◌}
use Rattle.tokens.specs.Numbers.{is_empty, is_number}

-- a part of a line, before one asks whether it stands in its place
pub data Part : Type 0 where
  left : Part
  right : Part
  space : Part
  run : List ℕ → Part

-- a token, or what stands where no token may
pub data Mark : Type 0 where
  opening : Mark
  closing : Mark
  word : List ℕ → Mark
  number : List ℕ → Mark
  stray : Mark

pub data Place : Type 0 where
  begun : Place
  ended : Place
  parted : Place

-- a space and the two brackets stand for themselves, and end a word
abbrev pub separator : ℕ → Option Part
separator b = cond (b == 32) (Some space) (cond (b == 40) (Some left) (cond (b == 41) (Some right) None))

abbrev pub ends_word : ℕ → Bool
ends_word b = is_some (separator b)

-- how many bytes at the front belong to a word
unfoldable pub word_length : List ℕ → ℕ
word_length [] = 0
word_length (b ∷ bs) = cond (ends_word b) 0 (suc (word_length bs))

-- a byte of a word before some parts: it joins the run that it meets
abbrev pub joined : ℕ → List Part → List Part
joined b [] = run (b ∷ []) ∷ []
joined b (left ∷ ps) = run (b ∷ []) ∷ left ∷ ps
joined b (right ∷ ps) = run (b ∷ []) ∷ right ∷ ps
joined b (space ∷ ps) = run (b ∷ []) ∷ space ∷ ps
joined b (run w ∷ ps) = run (b ∷ w) ∷ ps

-- a byte before some parts: a part of its own, or a byte of a word
abbrev pub set_before : Option Part → ℕ → List Part → List Part
set_before (Some p) b ps = p ∷ ps
set_before None b ps = joined b ps

-- the parts of some bytes
unfoldable pub parts : List ℕ → List Part
parts [] = []
parts (b ∷ bs) = set_before (separator b) b (parts bs)

-- a run of bytes is a number if it looks like one, and else a word
abbrev pub named : List ℕ → Mark
named w = cond (is_number w) (number w) (word w)

-- the tokens of some parts, up to what is out of place: one space parts words and forms, none follows `(` or precedes `)`
unfoldable pub marks : Place → List Part → List Mark
marks begun [] = []
marks ended [] = []
marks parted [] = stray ∷ []
marks begun (left ∷ ps) = opening ∷ marks begun ps
marks ended (left ∷ ps) = stray ∷ []
marks parted (left ∷ ps) = opening ∷ marks begun ps
marks begun (right ∷ ps) = closing ∷ marks ended ps
marks ended (right ∷ ps) = closing ∷ marks ended ps
marks parted (right ∷ ps) = stray ∷ []
marks begun (space ∷ ps) = stray ∷ []
marks ended (space ∷ ps) = marks parted ps
marks parted (space ∷ ps) = stray ∷ []
marks begun (run w ∷ ps) = named w ∷ marks ended ps
marks ended (run w ∷ ps) = stray ∷ []
marks parted (run w ∷ ps) = named w ∷ marks ended ps

-- the tokens of a line
abbrev pub tokens_of : List ℕ → List Mark
tokens_of line = marks begun (parts line)

-- the space that is due before a word or a form
abbrev pub due : Place → List ℕ
due begun = []
due ended = 32 ∷ []
due parted = []

-- the bytes that tokens spell
unfoldable pub spell : Place → List Mark → List ℕ
spell p [] = []
spell p (opening ∷ ms) = due p ++ (40 ∷ spell begun ms)
spell p (closing ∷ ms) = 41 ∷ spell ended ms
spell p (word w ∷ ms) = due p ++ (w ++ spell ended ms)
spell p (number w ∷ ms) = due p ++ (w ++ spell ended ms)
spell p (stray ∷ ms) = []

-- no byte ends a word
abbrev pub all_plain : List ℕ → Bool
all_plain [] = true
all_plain (b ∷ bs) = not (ends_word b) && all_plain bs

-- the bytes can be a word: one or more, and none that ends a word
abbrev pub is_word : List ℕ → Bool
is_word w = not (is_empty w) && all_plain w

-- the mark is a token: a word, or a number where it looks like one
abbrev pub is_token : Mark → Bool
is_token opening = true
is_token closing = true
is_token (word w) = is_word w && not (is_number w)
is_token (number w) = is_word w && is_number w
is_token stray = false

-- each mark is a token
unfoldable pub all_tokens : List Mark → Bool
all_tokens [] = true
all_tokens (m ∷ ms) = is_token m && all_tokens ms

-- the tokens of a line are those that spell it: they spell it if nothing is stray, and no other tokens do
abbrev pub Spelled : List ℕ → Type 0
Spelled line =
    (all_tokens (tokens_of line) ≡ true → spell begun (tokens_of line) ≡ line)
    × ((ms : List Mark) → all_tokens ms ≡ true → spell begun ms ≡ line → tokens_of line ≡ ms)
