-- One step taken from the front of a task's tokens, and what is left after it. Assumes nothing.
use Rattle.std.specs.Prelude.{ℕ, Bool, true, false, cond, List, [], ◌∷◌, ◌++◌, Some, None, Ok, Err, Option, Result}
use Rattle.std.specs.Option.{option_map, ok_or}
use Rattle.tokens.specs.declared.token.LineFault.{LineFault}
use Rattle.tokens.specs.declared.token.LineFault.TheVariants.{NoForm}
use Rattle.tokens.specs.Cursor.{first, later}
use Rattle.tokens.specs.Expected.{first_word}
use Rattle.tokens.specs.Tokens.{Mark, opening, closing, word, number, stray}
use Rattle.forms.specs.Forms.{bind, bare_act, act_with, is_over, acts_in, between}
use Rattle.forms.specs.Meaning.{Act}

-- the bracket that closes a step comes first
abbrev pub ends_step : List Mark → Bool
ends_step [] = false
ends_step (opening ∷ ms) = false
ends_step (closing ∷ ms) = true
ends_step (word w ∷ ms) = false
ends_step (number w ∷ ms) = false
ends_step (stray ∷ ms) = false

-- the argument before the bracket that closes a step, or that the step has none, if it closes
abbrev pub argument_in : List Mark → Option (Option Mark)
argument_in [] = None
argument_in (opening ∷ ms) = None
argument_in (closing ∷ ms) = Some None
argument_in (word w ∷ ms) = cond (ends_step ms) (Some (Some (word w))) None
argument_in (number w ∷ ms) = cond (ends_step ms) (Some (Some (number w))) None
argument_in (stray ∷ ms) = None

-- what is left once an argument and the bracket that closes the step are asked for
abbrev pub after_argument : List Mark → List Mark
after_argument [] = []
after_argument (opening ∷ ms) = ms
after_argument (closing ∷ ms) = ms
after_argument (word w ∷ ms) = later ms
after_argument (number w ∷ ms) = later ms
after_argument (stray ∷ ms) = stray ∷ ms

-- the step that a keyword is, with an argument or by itself
abbrev pub act_by : List ℕ → Option Mark → Option Act
act_by k None = bare_act k
act_by k (Some m) = act_with k m

-- the step whose opening bracket was read
abbrev pub step_in : List Mark → Option Act
step_in ms = bind (first_word ms) (λ k. bind (argument_in (later ms)) (act_by k))

-- what is left once the rest of a step is asked for, if its keyword came
abbrev pub after_keyword : Option (List ℕ) → List Mark → List Mark
after_keyword None ms = ms
after_keyword (Some k) ms = after_argument ms

-- what is left once the step whose opening bracket was read is asked for
abbrev pub after_step : List Mark → List Mark
after_step ms = after_keyword (first_word ms) (later ms)

-- a step that was read is the next one
abbrev pub found : Result Act LineFault → Result (Option Act) LineFault
found (Ok a) = Ok (Some a)
found (Err e) = Err e

-- the next step of a task whose next token is given, or none where the task and the line end
abbrev pub next_by : Result (Option Mark) LineFault → List Mark → Result (Option Act) LineFault
next_by (Ok None) ms = Err NoForm
next_by (Ok (Some opening)) ms = found (ok_or (step_in ms) NoForm)
next_by (Ok (Some closing)) ms = cond (is_over ms) (Ok None) (Err NoForm)
next_by (Ok (Some (word w))) ms = Err NoForm
next_by (Ok (Some (number w))) ms = Err NoForm
next_by (Ok (Some stray)) ms = Err NoForm
next_by (Err e) ms = Err e

-- the next step of a task, or none where the task and the line end
abbrev pub next_in : List Mark → Result (Option Act) LineFault
next_in ms = next_by (first ms) (later ms)

-- what is left once the next step, whose first token is given, is asked for
abbrev pub after_first : Result (Option Mark) LineFault → List Mark → List Mark
after_first (Ok None) ms = ms
after_first (Ok (Some opening)) ms = after_step ms
after_first (Ok (Some closing)) ms = later ms
after_first (Ok (Some (word w))) ms = ms
after_first (Ok (Some (number w))) ms = ms
after_first (Ok (Some stray)) ms = ms
after_first (Err e) ms = ms

-- what is left once the next step is asked for
abbrev pub after_next : List Mark → List Mark
after_next ms = after_first (first ms) (later ms)

-- the acts that were read, before those that the tokens still say
abbrev pub read_before : List Act → List Mark → Option (List Act)
read_before acts ms = option_map (λ more. acts ++ more) (acts_in between ms)
