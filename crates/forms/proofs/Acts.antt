-- The steps of a task are its next step before the steps that are left. Assumes nothing.
use Rattle.std.proofs.Common.{◌≡◌, ℕ, cond, List, [], ◌∷◌, ◌++◌, map, Some, None, Ok, Err, Option, Result, sym, refl, ap, ◌∙◌, append_assoc, append-nil}
use mathlib.Core.List.{map-append}
use Rattle.std.specs.Option.{option_map, ok_or}
use Rattle.tokens.specs.declared.token.LineFault.{LineFault}
use Rattle.tokens.specs.declared.token.LineFault.TheVariants.{NoForm}
use Rattle.tokens.specs.Cursor.{later}
use Rattle.tokens.specs.Tokens.{Mark, opening, closing, word, number, stray}
use Rattle.forms.specs.Forms.{bind, consed, acts_in, between, begun, keyed, given}
use Rattle.forms.specs.Meaning.{Act}
use Rattle.forms.specs.declared.form.Step.{Step}
use Rattle.forms.specs.Views.{act_of}
use Rattle.forms.specs.Steps.{ends_step, argument_in, after_argument, act_by, step_in, after_step, found, next_in, after_next, read_before}

-- the acts of a task whose next step is this, where these follow it
abbrev acts_after : Result (Option Act) LineFault → Option (List Act) → Option (List Act)
acts_after (Ok None) more = Some []
acts_after (Ok (Some a)) more = consed (Some a) more
acts_after (Err e) more = None

consed_after : (o : Option Act) (more : Option (List Act)) → consed o more ≡ acts_after (found (ok_or o NoForm)) more
consed_after None more = refl
consed_after (Some a) more = refl

given_acts : (k : List ℕ) (m : Mark) (ms : List Mark) → acts_in (given k m) ms ≡ consed (bind (cond (ends_step ms) (Some (Some m)) None) (act_by k)) (acts_in between (later ms))
unfolding acts_in
given_acts k m [] = refl
given_acts k m (opening ∷ ms) = refl
given_acts k m (closing ∷ ms) = refl
given_acts k m (word w ∷ ms) = refl
given_acts k m (number w ∷ ms) = refl
given_acts k m (stray ∷ ms) = refl

keyed_acts : (k : List ℕ) (ms : List Mark) → acts_in (keyed k) ms ≡ consed (bind (argument_in ms) (act_by k)) (acts_in between (after_argument ms))
unfolding acts_in
keyed_acts k [] = refl
keyed_acts k (opening ∷ ms) = refl
keyed_acts k (closing ∷ ms) = refl
keyed_acts k (word w ∷ ms) = given_acts k (word w) ms
keyed_acts k (number w ∷ ms) = given_acts k (number w) ms
keyed_acts k (stray ∷ ms) = refl

begun_acts : (ms : List Mark) → acts_in begun ms ≡ acts_after (found (ok_or (step_in ms) NoForm)) (acts_in between (after_step ms))
unfolding acts_in
begun_acts [] = refl
begun_acts (opening ∷ ms) = refl
begun_acts (closing ∷ ms) = refl
begun_acts (word k ∷ ms) = keyed_acts k ms ∙ consed_after (bind (argument_in ms) (act_by k)) (acts_in between (after_argument ms))
begun_acts (number k ∷ ms) = refl
begun_acts (stray ∷ ms) = refl

-- the acts of a task are its next one before those that the tokens left say
acts_next : (ms : List Mark) → acts_in between ms ≡ acts_after (next_in ms) (acts_in between (after_next ms))
unfolding acts_in
acts_next [] = refl
acts_next (opening ∷ ms) = begun_acts ms
acts_next (closing ∷ []) = refl
acts_next (closing ∷ m ∷ ms) = refl
acts_next (word w ∷ ms) = refl
acts_next (number w ∷ ms) = refl
acts_next (stray ∷ ms) = refl

-- the acts of a task whose next step is known, after those that were read
read_before_by : (acts : List Act) (next : Result (Option Act) LineFault) (ms : List Mark) → next ≡ next_in ms → read_before acts ms ≡ option_map (λ more. acts ++ more) (acts_after next (acts_in between (after_next ms)))
read_before_by acts next ms h = ap (option_map (λ more. acts ++ more)) (acts_next ms ∙ ap (λ n. acts_after n (acts_in between (after_next ms))) (sym h))

regrouped : (acts : List Act) (a : Act) (o : Option (List Act)) → option_map (λ more. acts ++ more) (consed (Some a) o) ≡ option_map (λ more. (acts ++ a ∷ []) ++ more) o
regrouped acts a None = refl
regrouped acts a (Some more) = ap Some (sym (append_assoc acts (a ∷ []) more))

module _ (steps : List Step) (o : Option Step) (ms : List Mark) (h : Ok (option_map act_of o) ≡ next_in ms) where
  -- once the next step is read, it is the last of those that were
  pub read_before_step : (s : Step) (more : List Step) (rest : List Mark) → o ≡ Some s → more ≡ steps ++ s ∷ [] → rest ≡ after_next ms → read_before (map act_of steps) ms ≡ read_before (map act_of more) rest
  read_before_step s more rest is grown left =
      read_before_by (map act_of steps) (Ok (Some (act_of s))) ms (ap (λ p. Ok (option_map act_of p)) (sym is) ∙ h)
      ∙ regrouped (map act_of steps) (act_of s) (acts_in between (after_next ms))
      ∙ (λ i. read_before ((sym (map-append act_of steps (s ∷ [])) ∙ ap (map act_of) (sym grown)) i) (sym left i))

  -- where the task ends, those that were read are all
  pub read_before_end : o ≡ None → read_before (map act_of steps) ms ≡ Some (map act_of steps)
  read_before_end is =
      read_before_by (map act_of steps) (Ok None) ms (ap (λ p. Ok (option_map act_of p)) (sym is) ∙ h)
      ∙ ap Some (append-nil (map act_of steps))

-- where what comes next is no step, the task is none
pub read_before_none : (acts : List Act) (e : LineFault) (ms : List Mark) → Err e ≡ next_in ms → read_before acts ms ≡ None
read_before_none acts e ms h = read_before_by acts (Err e) ms h
