-- What a piece, a token and a cursor of the code tell of a line. Assumes nothing.
use Rattle.std.specs.Prelude.{◌≡◌, ℕ, Bool, cond, List, [], ◌∷◌, Some, None, Ok, Err, Option, Result}
use Rattle.std.specs.Borrow.{Bor}
use Rattle.tokens.specs.declared.piece.Piece.{Piece}
use Rattle.tokens.specs.declared.piece.Piece.TheVariants.{Left, Right, Space, Run}
use Rattle.tokens.specs.declared.token.LineFault.{LineFault}
use Rattle.tokens.specs.declared.token.LineFault.TheVariants.{NoForm}
use Rattle.tokens.specs.declared.token.Token.{Token}
use Rattle.tokens.specs.declared.token.Token.TheVariants.{Open, Close, Word, Number}
use Rattle.tokens.specs.declared.cursor.Tokens.{Tokens}
use Rattle.tokens.specs.Tokens.{Part, left, right, space, run, Mark, opening, closing, word, number, stray, Place, begun, ended, parts, marks, named}

-- the part that a piece tells
abbrev pub part_of : Piece → Part
part_of Left = left
part_of Right = right
part_of Space = space
part_of (Run w) = run w.now

-- the mark that a token tells
abbrev pub mark_of : Token → Mark
mark_of Open = opening
mark_of Close = closing
mark_of (Word w) = word w.now
mark_of (Number w) = number w.now

-- the mark that a part is where a form or a word may begin
abbrev pub opener_of : Part → Option Mark
opener_of left = Some opening
opener_of right = None
opener_of space = None
opener_of (run w) = Some (named w)

-- a token or a fault, as a mark or a fault
abbrev pub marked : Result Token LineFault → Result Mark LineFault
marked (Ok t) = Ok (mark_of t)
marked (Err e) = Err e

-- the place in a line: at a beginning, or after a word or a form
abbrev pub place_if : Bool → Place
place_if begins = cond begins begun ended

-- the place after a token
abbrev pub place_after : Token → Place
place_after Open = begun
place_after Close = ended
place_after (Word w) = ended
place_after (Number w) = ended

-- the first token of some bytes was split off, or none is left, or what comes first is stray
abbrev pub Split : Bool → List ℕ → Result (Option (Token × Bor (List ℕ))) LineFault → Type 0
Split begins bs (Ok None) = marks (place_if begins) (parts bs) ≡ []
Split begins bs (Ok (Some p)) = marks (place_if begins) (parts bs) ≡ mark_of p.0 ∷ marks (place_after p.0) (parts p.1.now)
Split begins bs (Err e) = marks (place_if begins) (parts bs) ≡ stray ∷ []

-- the marks that a cursor has before it
abbrev pub ahead : Tokens → List Mark
ahead c = marks (place_if c.begun) (parts c.rest.now)

-- the answer of a cursor, as marks
abbrev pub heard : Result (Option Token) LineFault → Result (Option Mark) LineFault
heard (Ok None) = Ok None
heard (Ok (Some t)) = Ok (Some (mark_of t))
heard (Err e) = Err e

-- what comes first: a token, nothing at the line's end, or a refusal where it is stray
abbrev pub first : List Mark → Result (Option Mark) LineFault
first [] = Ok None
first (opening ∷ ms) = Ok (Some opening)
first (closing ∷ ms) = Ok (Some closing)
first (word w ∷ ms) = Ok (Some (word w))
first (number w ∷ ms) = Ok (Some (number w))
first (stray ∷ ms) = Err NoForm

-- what is ahead once the first token is taken; what is stray is never passed
abbrev pub later : List Mark → List Mark
later [] = []
later (opening ∷ ms) = ms
later (closing ∷ ms) = ms
later (word w ∷ ms) = ms
later (number w ∷ ms) = ms
later (stray ∷ ms) = stray ∷ ms
