-- Tokens are read as acts exactly if they say them. Assumes nothing.
use Rattle.std.proofs.Common.{◌≡◌, ℕ, Bool, true, false, cond, not, ◌&&◌, List, [], ◌∷◌, ◌++◌, Some, None, codes, Option, sym, refl, ap, ◌∙◌, subst, ap₂, append_assoc}
use Rattle.std.specs.Option.{option_map}
use Rattle.std.proofs.lemmas.Bool.{and_parts, false≢true, not-true}
use Rattle.tokens.specs.Numbers.{is_number, natural_of, integer_of}
use Rattle.tokens.specs.Tokens.{Mark, opening, closing, word, number, stray, named, is_word, is_token, all_tokens}
use Rattle.tokens.proofs.Strays.{no_stray}
use Rattle.forms.specs.Forms.{name_in, digits_in, bind, bare_act, act_with, consed, Stage, between, begun, keyed, given, is_over, acts_in}
use Rattle.forms.specs.Meaning.{Act, sleep, spawn, wake, abort, stop, await, done, fault}
use Rattle.grammar.specs.Reads.{Writes, WritesSigned, with_name, with_number, SaysAct, SaysActs}
use Rattle.grammar.proofs.Cases.{none≢some, some_same, cond_some, mapped_some, consed_some, by_keyword}
use Rattle.grammar.proofs.Written.{natural_of_writes, writes_natural_of, integer_of_writes, writes_integer_of}

pub name_in_named : (w : List ℕ) → name_in (named w) ≡ Some w
name_in_named w = by (is_number w)
  where
    by : (t : Bool) → name_in (cond t (number w) (word w)) ≡ Some w
    by true = refl
    by false = refl

named_word : (w : List ℕ) → not (is_number w) ≡ true → named w ≡ word w
named_word w h = rw (not-true (is_number w) h)

named_number : (w : List ℕ) → is_number w ≡ true → named w ≡ number w
named_number w h = rw h

-- a token with a name is the one that the name makes
pub named_name_in : (m : Mark) (w : List ℕ) → is_token m ≡ true → name_in m ≡ Some w → m ≡ named w
named_name_in opening w t h = absurd (none≢some h)
named_name_in closing w t h = absurd (none≢some h)
named_name_in (word v) w t h = sym (named_word v (and_parts (is_word v) (not (is_number v)) t).1) ∙ ap named (some_same h)
named_name_in (number v) w t h = sym (named_number v (and_parts (is_word v) (is_number v) t).1) ∙ ap named (some_same h)
named_name_in stray w t h = absurd (none≢some h)

-- a keyword and a mark in brackets
abbrev bracketed : List ℕ → Mark → List Mark
bracketed k m = opening ∷ word k ∷ m ∷ closing ∷ []

-- the number that a mark is
numbered : {N A : Type 0} (f : N → A) (of : List ℕ → Option N) (m : Mark) (a : A) → option_map f (bind (digits_in m) of) ≡ Some a
    → (w : List ℕ) × (n : N) × (m ≡ number w) × (of w ≡ Some n) × (a ≡ f n)
numbered f of opening a h = absurd (none≢some h)
numbered f of closing a h = absurd (none≢some h)
numbered f of (word w) a h = absurd (none≢some h)
numbered f of (number w) a h = let is = mapped_some f (of w) a h in (w, is.0, refl, is.1, is.2)
numbered f of stray a h = absurd (none≢some h)

-- an act that a keyword and a number say
says_number : {N : Type 0} (K : List ℕ) (f : N → Act) (of : List ℕ → Option N) (W : N → List ℕ → Type 0) → ((n : N) (w : List ℕ) → of w ≡ Some n → W n w)
    → ((n : N) (ms : List Mark) → (w : List ℕ) × (ms ≡ with_number K w) × W n w → SaysAct (f n) ms)
    → (k : List ℕ) (m : Mark) (a : Act) → k ≡ K → option_map f (bind (digits_in m) of) ≡ Some a → SaysAct a (bracketed k m)
says_number K f of W writes says k m a e h =
    let is = numbered f of m a h in
    subst (λ x. SaysAct x (bracketed k m)) (sym is.4) (says is.1 (bracketed k m) (is.0, ap₂ bracketed e is.2, writes is.1 is.0 is.3))

-- an act that a keyword and a name say
says_name : (K : List ℕ) (f : List ℕ → Act) → ((w : List ℕ) (ms : List Mark) → ms ≡ with_name K w → SaysAct (f w) ms)
    → (k : List ℕ) (m : Mark) (a : Act) → is_token m ≡ true → k ≡ K → option_map f (name_in m) ≡ Some a → SaysAct a (bracketed k m)
says_name K f says k m a t e h =
    let is = mapped_some f (name_in m) a h in
    subst (λ x. SaysAct x (bracketed k m)) (sym is.2) (says is.0 (bracketed k m) (ap₂ bracketed e (named_name_in m is.0 t is.1)))

act_with_says : (k : List ℕ) (m : Mark) (a : Act) → is_token m ≡ true → act_with k m ≡ Some a → SaysAct a (bracketed k m)
act_with_says k m a t =
    by_keyword k (codes "sleep") _ _ a (says_number (codes "sleep") sleep (natural_of 64) (Writes 64) (natural_of_writes 64) (λ n ms h. h) k m a)
    (by_keyword k (codes "spawn") _ _ a (says_name (codes "spawn") spawn (λ w ms h. h) k m a t)
    (by_keyword k (codes "wake") _ _ a (says_name (codes "wake") wake (λ w ms h. h) k m a t)
    (by_keyword k (codes "abort") _ _ a (says_name (codes "abort") abort (λ w ms h. h) k m a t)
    (by_keyword k (codes "stop") _ _ a (says_number (codes "stop") stop (integer_of 32) (WritesSigned 32) (integer_of_writes 32) (λ n ms h. h) k m a)
    (by_keyword k (codes "done") _ _ a (says_number (codes "done") done (integer_of 64) (WritesSigned 64) (integer_of_writes 64) (λ n ms h. h) k m a)
    (by_keyword k (codes "fault") _ _ a (says_number (codes "fault") fault (natural_of 32) (Writes 32) (natural_of_writes 32) (λ n ms h. h) k m a)
    (λ h. absurd (none≢some h))))))))

bare_act_says : (k : List ℕ) (a : Act) → bare_act k ≡ Some a → SaysAct a (opening ∷ word k ∷ closing ∷ [])
bare_act_says k a =
    by_keyword k (codes "await") (Some await) None a
    (λ e h. subst (λ x. SaysAct x (opening ∷ word k ∷ closing ∷ [])) (some_same h) (ap (λ x. opening ∷ word x ∷ closing ∷ []) e))
    (λ h. absurd (none≢some h))

-- the tokens say the acts, and then close the task
abbrev pub ClosesActs : List Act → List Mark → Type 0
ClosesActs acts ms = (steps : List Mark) × (ms ≡ steps ++ closing ∷ []) × SaysActs acts steps

closes_acts_more : (a : Act) (more : List Act) (front ms : List Mark) → SaysAct a front → ClosesActs more ms → ClosesActs (a ∷ more) (front ++ ms)
unfolding SaysActs
closes_acts_more a more front ms says h =
    (front ++ h.0, ap (λ x. front ++ x) h.1 ∙ sym (append_assoc front h.0 (closing ∷ [])), (front, h.0, refl, says, h.2))

closes_acts_none : (ms : List Mark) (acts : List Act) → cond (is_over ms) (Some []) None ≡ Some acts → ClosesActs acts (closing ∷ ms)
unfolding SaysActs
closes_acts_none [] acts h = subst (λ x. ClosesActs x (closing ∷ [])) (some_same h) ([], refl, refl)
closes_acts_none (m ∷ ms) acts h = absurd (none≢some h)

-- the tokens of the step that has begun
abbrev held : Stage → List Mark
held between = []
held begun = opening ∷ []
held (keyed k) = opening ∷ word k ∷ []
held (given k m) = opening ∷ word k ∷ m ∷ []

closes_acts_step : (front ms : List Mark) (o : Option Act) (acts : List Act) → consed o (acts_in between ms) ≡ Some acts → ((a : Act) → o ≡ Some a → SaysAct a front)
    → ((more : List Act) → acts_in between ms ≡ Some more → ClosesActs more ms) → ClosesActs acts (front ++ ms)
closes_acts_step front ms o acts h says more =
    let is = consed_some o (acts_in between ms) acts h in
    subst (λ x. ClosesActs x (front ++ ms)) (sym is.4) (closes_acts_more is.0 is.1 front ms (says is.0 is.2) (more is.1 is.3))

acts_in_says : (s : Stage) (ms : List Mark) (acts : List Act) → all_tokens (held s ++ ms) ≡ true → acts_in s ms ≡ Some acts → ClosesActs acts (held s ++ ms)
unfolding acts_in all_tokens
acts_in_says s [] acts t h = absurd (none≢some h)
acts_in_says between (opening ∷ ms) acts t h = acts_in_says begun ms acts t h
acts_in_says between (closing ∷ ms) acts t h = closes_acts_none ms acts h
acts_in_says between (word w ∷ ms) acts t h = absurd (none≢some h)
acts_in_says between (number w ∷ ms) acts t h = absurd (none≢some h)
acts_in_says between (stray ∷ ms) acts t h = absurd (none≢some h)
acts_in_says begun (opening ∷ ms) acts t h = absurd (none≢some h)
acts_in_says begun (closing ∷ ms) acts t h = absurd (none≢some h)
acts_in_says begun (word k ∷ ms) acts t h = acts_in_says (keyed k) ms acts t h
acts_in_says begun (number k ∷ ms) acts t h = absurd (none≢some h)
acts_in_says begun (stray ∷ ms) acts t h = absurd (none≢some h)
acts_in_says (keyed k) (opening ∷ ms) acts t h = absurd (none≢some h)
acts_in_says (keyed k) (closing ∷ ms) acts t h =
    closes_acts_step (opening ∷ word k ∷ closing ∷ []) ms (bare_act k) acts h (bare_act_says k)
    (λ more. acts_in_says between ms more (and_parts (is_token (word k)) (all_tokens ms) t).1)
acts_in_says (keyed k) (word w ∷ ms) acts t h = acts_in_says (given k (word w)) ms acts t h
acts_in_says (keyed k) (number w ∷ ms) acts t h = acts_in_says (given k (number w)) ms acts t h
acts_in_says (keyed k) (stray ∷ ms) acts t h = absurd (none≢some h)
acts_in_says (given k m) (opening ∷ ms) acts t h = absurd (none≢some h)
acts_in_says (given k m) (closing ∷ ms) acts t h =
    let both = and_parts (is_token m) (all_tokens ms) (and_parts (is_token (word k)) (is_token m && all_tokens ms) t).1 in
    closes_acts_step (bracketed k m) ms (act_with k m) acts h (λ a. act_with_says k m a both.0) (λ more. acts_in_says between ms more both.1)
acts_in_says (given k m) (word w ∷ ms) acts t h = absurd (none≢some h)
acts_in_says (given k m) (number w ∷ ms) acts t h = absurd (none≢some h)
acts_in_says (given k m) (stray ∷ ms) acts t h = absurd (none≢some h)

-- tokens that are acts say them, and then close the task
pub acts_in_closes : (ms : List Mark) (acts : List Act) → all_tokens ms ≡ true → acts_in between ms ≡ Some acts → ClosesActs acts ms
acts_in_closes ms acts t h = acts_in_says between ms acts t h

acts_in_named : (k w : List ℕ) (rest : List Mark) → acts_in between (opening ∷ word k ∷ named w ∷ closing ∷ rest) ≡ consed (act_with k (named w)) (acts_in between rest)
unfolding acts_in
acts_in_named k w rest = by (is_number w)
  where
    by : (t : Bool) → acts_in between (opening ∷ word k ∷ cond t (number w) (word w) ∷ closing ∷ rest) ≡ consed (act_with k (cond t (number w) (word w))) (acts_in between rest)
    by true = refl
    by false = refl

acts_in_number : {N : Type 0} (K : List ℕ) (f : N → Act) (of : List ℕ → Option N) (front rest : List Mark) (w : List ℕ) (n : N)
    → act_with K (number w) ≡ option_map f (of w) → front ≡ with_number K w → of w ≡ Some n → acts_in between (front ++ rest) ≡ consed (Some (f n)) (acts_in between rest)
unfolding acts_in
acts_in_number K f of front rest w n is e h =
    ap (λ x. acts_in between (x ++ rest)) e ∙ ap (λ o. consed o (acts_in between rest)) (is ∙ ap (option_map f) h)

acts_in_name : (K : List ℕ) (f : List ℕ → Act) (front rest : List Mark) (w : List ℕ) → ((m : Mark) → act_with K m ≡ option_map f (name_in m)) → front ≡ with_name K w
    → acts_in between (front ++ rest) ≡ consed (Some (f w)) (acts_in between rest)
acts_in_name K f front rest w is e =
    ap (λ x. acts_in between (x ++ rest)) e ∙ (acts_in_named K w rest ∙ ap (λ o. consed o (acts_in between rest)) (is (named w) ∙ ap (option_map f) (name_in_named w)))

-- tokens that say an act are that act, before those that follow
acts_in_act : (a : Act) (front rest : List Mark) → SaysAct a front → acts_in between (front ++ rest) ≡ consed (Some a) (acts_in between rest)
unfolding acts_in
acts_in_act (sleep n) front rest h = acts_in_number (codes "sleep") sleep (natural_of 64) front rest h.0 n refl h.1 (writes_natural_of 64 n h.0 h.2)
acts_in_act (spawn w) front rest h = acts_in_name (codes "spawn") spawn front rest w (λ m. refl) h
acts_in_act (wake w) front rest h = acts_in_name (codes "wake") wake front rest w (λ m. refl) h
acts_in_act (abort w) front rest h = acts_in_name (codes "abort") abort front rest w (λ m. refl) h
acts_in_act (stop z) front rest h = acts_in_number (codes "stop") stop (integer_of 32) front rest h.0 z refl h.1 (writes_integer_of 32 z h.0 h.2)
acts_in_act await front rest h = ap (λ x. acts_in between (x ++ rest)) h
acts_in_act (done z) front rest h = acts_in_number (codes "done") done (integer_of 64) front rest h.0 z refl h.1 (writes_integer_of 64 z h.0 h.2)
acts_in_act (fault n) front rest h = acts_in_number (codes "fault") fault (natural_of 32) front rest h.0 n refl h.1 (writes_natural_of 32 n h.0 h.2)

-- tokens that say acts are those acts, once the task is closed
pub acts_in_closed : (acts : List Act) (steps : List Mark) → SaysActs acts steps → acts_in between (steps ++ closing ∷ []) ≡ Some acts
unfolding acts_in SaysActs
acts_in_closed [] steps h = ap (λ x. acts_in between (x ++ closing ∷ [])) h
acts_in_closed (a ∷ more) steps h =
    ap (λ x. acts_in between (x ++ closing ∷ [])) h.2
    ∙ (ap (acts_in between) (append_assoc h.0 h.1 (closing ∷ []))
    ∙ (acts_in_act a h.0 (h.1 ++ closing ∷ []) h.3
    ∙ ap (consed (Some a)) (acts_in_closed more h.1 h.4)))

pub is_over_unstray : (ms : List Mark) → is_over ms ≡ true → no_stray ms ≡ true
unfolding no_stray
is_over_unstray [] h = refl
is_over_unstray (m ∷ ms) h = absurd (false≢true h)

-- nothing is stray in what is acts
acts_in_unstray : (s : Stage) (ms : List Mark) (acts : List Act) → acts_in s ms ≡ Some acts → no_stray ms ≡ true
unfolding acts_in no_stray
acts_in_unstray s [] acts h = refl
acts_in_unstray between (opening ∷ ms) acts h = acts_in_unstray begun ms acts h
acts_in_unstray between (closing ∷ ms) acts h = is_over_unstray ms (cond_some (is_over ms) [] acts h).0
acts_in_unstray between (word w ∷ ms) acts h = absurd (none≢some h)
acts_in_unstray between (number w ∷ ms) acts h = absurd (none≢some h)
acts_in_unstray between (stray ∷ ms) acts h = absurd (none≢some h)
acts_in_unstray begun (opening ∷ ms) acts h = absurd (none≢some h)
acts_in_unstray begun (closing ∷ ms) acts h = absurd (none≢some h)
acts_in_unstray begun (word k ∷ ms) acts h = acts_in_unstray (keyed k) ms acts h
acts_in_unstray begun (number k ∷ ms) acts h = absurd (none≢some h)
acts_in_unstray begun (stray ∷ ms) acts h = absurd (none≢some h)
acts_in_unstray (keyed k) (opening ∷ ms) acts h = absurd (none≢some h)
acts_in_unstray (keyed k) (closing ∷ ms) acts h = let is = consed_some (bare_act k) (acts_in between ms) acts h in acts_in_unstray between ms is.1 is.3
acts_in_unstray (keyed k) (word w ∷ ms) acts h = acts_in_unstray (given k (word w)) ms acts h
acts_in_unstray (keyed k) (number w ∷ ms) acts h = acts_in_unstray (given k (number w)) ms acts h
acts_in_unstray (keyed k) (stray ∷ ms) acts h = absurd (none≢some h)
acts_in_unstray (given k m) (opening ∷ ms) acts h = absurd (none≢some h)
acts_in_unstray (given k m) (closing ∷ ms) acts h = let is = consed_some (act_with k m) (acts_in between ms) acts h in acts_in_unstray between ms is.1 is.3
acts_in_unstray (given k m) (word w ∷ ms) acts h = absurd (none≢some h)
acts_in_unstray (given k m) (number w ∷ ms) acts h = absurd (none≢some h)
acts_in_unstray (given k m) (stray ∷ ms) acts h = absurd (none≢some h)

-- nothing is stray in a task's steps
pub acts_in_between_unstray : (ms : List Mark) (acts : List Act) → acts_in between ms ≡ Some acts → no_stray ms ≡ true
acts_in_between_unstray ms acts h = acts_in_unstray between ms acts h
