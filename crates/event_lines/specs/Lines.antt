-- The event that the tokens of a line are, or what is wrong with them.
use Rattle.std.specs.Prelude.{ℕ, cond, List, ℤ, Some, None, Ok, Err, codes, Option, Result}
use Rattle.std.specs.Str.{bytes_eq}
use Rattle.auditor.specs.Events.{Event, process_task, stop, stopped}
use Rattle.tokens.specs.Cursor.{later}
use Rattle.tokens.specs.Expected.{opens, first_word, first_number, first_name, closes}
use Rattle.tokens.specs.Numbers.{natural_of, integer_of}
use Rattle.tokens.specs.Tokens.{Mark, tokens_of}
use Rattle.event_lines.specs.declared.event.Trouble.{Trouble}
use Rattle.event_lines.specs.declared.event.Trouble.TheVariants.{NoEvent, NoId, NoValue}

-- the event, if the form closes here and ends the line
abbrev pub closed_as : Event → List Mark → Result Event Trouble
closed_as e ms = cond (closes ms) (Ok e) (Err NoEvent)

-- the poll of a task of this id, whose label comes next
abbrev pub labelled : ℕ → Option (List ℕ) → List Mark → Result Event Trouble
labelled id None ms = Err NoEvent
labelled id (Some label) ms = closed_as (process_task id label) ms

-- the number that the bytes of a token write, if there are any
abbrev pub and_then : {A B : Type 0} → Option A → (A → Option B) → Option B
and_then None f = None
and_then (Some x) f = f x

-- the poll of a task whose id is given, if it is
abbrev pub polled : Option ℕ → List Mark → Result Event Trouble
polled None ms = Err NoId
polled (Some id) ms = labelled id (first_name ms) (later ms)

-- the stop whose value is given, if it is
abbrev pub asked : Option ℤ → List Mark → Result Event Trouble
asked None ms = Err NoValue
asked (Some value) ms = closed_as (stop value) ms

-- the event of this name, whose parts come next
abbrev pub event_by : List ℕ → List Mark → Result Event Trouble
event_by name ms =
    cond (bytes_eq name (codes "process_task")) (polled (and_then (first_number ms) (natural_of 64)) (later ms))
    (cond (bytes_eq name (codes "stop")) (asked (and_then (first_number ms) (integer_of 32)) (later ms))
    (cond (bytes_eq name (codes "stopped")) (closed_as stopped ms) (Err NoEvent)))

-- the event of a name, if there is one
abbrev pub event_named : Option (List ℕ) → List Mark → Result Event Trouble
event_named None ms = Err NoEvent
event_named (Some name) ms = event_by name ms

-- the event that the tokens are
abbrev pub event_in : List Mark → Result Event Trouble
event_in ms = cond (opens ms) (event_named (first_word (later ms)) (later (later ms))) (Err NoEvent)

-- the event that a line is
abbrev pub event_of : List ℕ → Result Event Trouble
event_of line = event_in (tokens_of line)
