-- Which lines say which event, by the rules of the format alone.
use Rattle.std.specs.Prelude.{◌≡◌, ℕ, ◌⊎◌, List, [], ◌∷◌, Some, Ok, codes}
use Rattle.auditor.specs.Events.{Event, process_task, stop, stopped}
use Rattle.tokens.specs.Numbers.{natural_of, integer_of}
use Rattle.tokens.specs.Tokens.{Mark, opening, closing, word, number, tokens_of}
use Rattle.event_lines.specs.Lines.{event_of}

-- the token is a label: a word, or what looks like a number
abbrev pub Labels : Mark → List ℕ → Type 0
Labels m label = (m ≡ word label) ⊎ (m ≡ number label)

-- the tokens say the event: in brackets its name, then its number and its label
abbrev pub Says : Event → List Mark → Type 0
Says (process_task id label) ms =
    (digits : List ℕ) × (m : Mark) × (ms ≡ opening ∷ word (codes "process_task") ∷ number digits ∷ m ∷ closing ∷ []) × (natural_of 64 digits ≡ Some id) × Labels m label
Says (stop value) ms = (digits : List ℕ) × (ms ≡ opening ∷ word (codes "stop") ∷ number digits ∷ closing ∷ []) × (integer_of 32 digits ≡ Some value)
Says stopped ms = ms ≡ opening ∷ word (codes "stopped") ∷ closing ∷ []

-- the line is read as an event exactly if its tokens say that event
abbrev pub Exact : List ℕ → Type 0
Exact line =
    ((e : Event) → event_of line ≡ Ok e → Says e (tokens_of line))
    × ((e : Event) → Says e (tokens_of line) → event_of line ≡ Ok e)
