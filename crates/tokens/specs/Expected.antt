-- What a cursor is asked for: a token of one kind, or the end of the form and the line.
use Rattle.std.specs.Prelude.{ℕ, Bool, true, false, List, [], ◌∷◌, Some, None, Option}
use Rattle.tokens.specs.Cursor.{later}
use Rattle.tokens.specs.Tokens.{Mark, opening, closing, word, number, stray}

-- an opening bracket comes first
abbrev pub opens : List Mark → Bool
opens [] = false
opens (opening ∷ ms) = true
opens (closing ∷ ms) = false
opens (word w ∷ ms) = false
opens (number w ∷ ms) = false
opens (stray ∷ ms) = false

-- the word that comes first
abbrev pub first_word : List Mark → Option (List ℕ)
first_word [] = None
first_word (opening ∷ ms) = None
first_word (closing ∷ ms) = None
first_word (word w ∷ ms) = Some w
first_word (number w ∷ ms) = None
first_word (stray ∷ ms) = None

-- the number that comes first, as its bytes
abbrev pub first_number : List Mark → Option (List ℕ)
first_number [] = None
first_number (opening ∷ ms) = None
first_number (closing ∷ ms) = None
first_number (word w ∷ ms) = None
first_number (number w ∷ ms) = Some w
first_number (stray ∷ ms) = None

-- the word or number that comes first: any of them may be a name
abbrev pub first_name : List Mark → Option (List ℕ)
first_name [] = None
first_name (opening ∷ ms) = None
first_name (closing ∷ ms) = None
first_name (word w ∷ ms) = Some w
first_name (number w ∷ ms) = Some w
first_name (stray ∷ ms) = None

-- no token is left
abbrev pub is_over : List Mark → Bool
is_over [] = true
is_over (m ∷ ms) = false

-- the bracket that closes the form comes first, and ends the line
abbrev pub closes : List Mark → Bool
closes [] = false
closes (opening ∷ ms) = false
closes (closing ∷ ms) = is_over ms
closes (word w ∷ ms) = false
closes (number w ∷ ms) = false
closes (stray ∷ ms) = false

-- what is ahead once it was asked whether the form closes: behind a closing bracket the end of the line was looked for too
abbrev pub after_closes : List Mark → List Mark
after_closes [] = []
after_closes (opening ∷ ms) = ms
after_closes (closing ∷ ms) = later ms
after_closes (word w ∷ ms) = ms
after_closes (number w ∷ ms) = ms
after_closes (stray ∷ ms) = stray ∷ ms
