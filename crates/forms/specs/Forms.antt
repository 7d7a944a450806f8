-- The form that a line's tokens are, if they are one. Assumes nothing.
use Rattle.std.specs.Prelude.{ℕ, Bool, true, false, cond, List, [], ◌∷◌, Some, None, codes, Option}
use Rattle.std.specs.Option.{option_map}
use Rattle.std.specs.Str.{bytes_eq}
use Rattle.tokens.specs.Numbers.{natural_of, integer_of}
use Rattle.tokens.specs.Tokens.{Mark, opening, closing, word, number, stray, tokens_of}
use Rattle.forms.specs.declared.form.Setting.TheVariants.{Cycle, Start, Timeout, Catch}
use Rattle.forms.specs.Meaning.{Act, sleep, spawn, wake, abort, stop, await, done, fault, Says, setting, task}

-- the bytes of a word or a number: any of them may be a name
abbrev pub name_in : Mark → Option (List ℕ)
name_in opening = None
name_in closing = None
name_in (word w) = Some w
name_in (number w) = Some w
name_in stray = None

-- the bytes of a number
abbrev pub digits_in : Mark → Option (List ℕ)
digits_in opening = None
digits_in closing = None
digits_in (word w) = None
digits_in (number w) = Some w
digits_in stray = None

-- what f makes of a value, if there is one
abbrev pub bind : {A B : Type 0} → Option A → (A → Option B) → Option B
bind None f = None
bind (Some x) f = f x

-- the step that a keyword is by itself
abbrev pub bare_act : List ℕ → Option Act
bare_act k = cond (bytes_eq k (codes "await")) (Some await) None

-- the step that a keyword and an argument are: a number must fit what it fills, a minus sign is allowed in stop and done
abbrev pub act_with : List ℕ → Mark → Option Act
act_with k m =
    cond (bytes_eq k (codes "sleep")) (option_map sleep (bind (digits_in m) (natural_of 64)))
    (cond (bytes_eq k (codes "spawn")) (option_map spawn (name_in m))
    (cond (bytes_eq k (codes "wake")) (option_map wake (name_in m))
    (cond (bytes_eq k (codes "abort")) (option_map abort (name_in m))
    (cond (bytes_eq k (codes "stop")) (option_map stop (bind (digits_in m) (integer_of 32)))
    (cond (bytes_eq k (codes "done")) (option_map done (bind (digits_in m) (integer_of 64)))
    (cond (bytes_eq k (codes "fault")) (option_map fault (bind (digits_in m) (natural_of 32))) None))))))

-- an act before the acts that follow, if both are there
abbrev pub consed : Option Act → Option (List Act) → Option (List Act)
consed None more = None
consed (Some a) None = None
consed (Some a) (Some more) = Some (a ∷ more)

-- where in a task one is: between its steps, in a step that has begun, after its keyword, or after its argument
pub data Stage : Type 0 where
  between : Stage
  begun : Stage
  keyed : List ℕ → Stage
  given : List ℕ → Mark → Stage

-- no token is left
abbrev pub is_over : List Mark → Bool
is_over [] = true
is_over (m ∷ ms) = false

-- the steps that the tokens are, up to the bracket that closes the task, which ends the line
unfoldable pub acts_in : Stage → List Mark → Option (List Act)
acts_in s [] = None
acts_in between (opening ∷ ms) = acts_in begun ms
acts_in between (closing ∷ ms) = cond (is_over ms) (Some []) None
acts_in between (word w ∷ ms) = None
acts_in between (number w ∷ ms) = None
acts_in between (stray ∷ ms) = None
acts_in begun (opening ∷ ms) = None
acts_in begun (closing ∷ ms) = None
acts_in begun (word k ∷ ms) = acts_in (keyed k) ms
acts_in begun (number k ∷ ms) = None
acts_in begun (stray ∷ ms) = None
acts_in (keyed k) (opening ∷ ms) = None
acts_in (keyed k) (closing ∷ ms) = consed (bare_act k) (acts_in between ms)
acts_in (keyed k) (word w ∷ ms) = acts_in (given k (word w)) ms
acts_in (keyed k) (number w ∷ ms) = acts_in (given k (number w)) ms
acts_in (keyed k) (stray ∷ ms) = None
acts_in (given k m) (opening ∷ ms) = None
acts_in (given k m) (closing ∷ ms) = consed (act_with k m) (acts_in between ms)
acts_in (given k m) (word w ∷ ms) = None
acts_in (given k m) (number w ∷ ms) = None
acts_in (given k m) (stray ∷ ms) = None

-- the tokens are the bracket that closes the form, and end the line
abbrev pub is_closed : List Mark → Bool
is_closed [] = false
is_closed (opening ∷ ms) = false
is_closed (closing ∷ ms) = is_over ms
is_closed (word w ∷ ms) = false
is_closed (number w ∷ ms) = false
is_closed (stray ∷ ms) = false

-- the time that the tokens of a setting are after its keyword
abbrev pub time_in : List Mark → Option ℕ
time_in [] = None
time_in (m ∷ ms) = cond (is_closed ms) (bind (digits_in m) (natural_of 64)) None

-- the name and the steps that the tokens of a task are after its keyword
abbrev pub task_in : List Mark → Option Says
task_in [] = None
task_in (m ∷ ms) = bind (name_in m) (λ w. option_map (task w) (acts_in between ms))

-- the form that a keyword and the tokens after it are
abbrev pub form_by : List ℕ → List Mark → Option Says
form_by k ms =
    cond (bytes_eq k (codes "cycle")) (option_map (λ n. setting (Cycle n)) (time_in ms))
    (cond (bytes_eq k (codes "start")) (option_map (λ n. setting (Start n)) (time_in ms))
    (cond (bytes_eq k (codes "timeout")) (option_map (λ n. setting (Timeout n)) (time_in ms))
    (cond (bytes_eq k (codes "catch")) (cond (is_closed ms) (Some (setting Catch)) None)
    (cond (bytes_eq k (codes "task")) (task_in ms) None))))

-- the form that the tokens after its opening bracket are
abbrev pub form_after : List Mark → Option Says
form_after [] = None
form_after (opening ∷ ms) = None
form_after (closing ∷ ms) = None
form_after (word k ∷ ms) = form_by k ms
form_after (number k ∷ ms) = None
form_after (stray ∷ ms) = None

-- the form that the tokens of a line are
abbrev pub form_in : List Mark → Option Says
form_in [] = None
form_in (opening ∷ ms) = form_after ms
form_in (closing ∷ ms) = None
form_in (word w ∷ ms) = None
form_in (number w ∷ ms) = None
form_in (stray ∷ ms) = None

-- the form that a line is
abbrev pub form_of : List ℕ → Option Says
form_of line = form_in (tokens_of line)
