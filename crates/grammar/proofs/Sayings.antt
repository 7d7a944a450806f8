-- A line is read as a form exactly if it says one. Assumes nothing.
use Rattle.std.proofs.Common.{◌≡◌, ℕ, Bool, true, false, cond, List, [], ◌∷◌, ◌++◌, Some, None, codes, Option, sym, refl, ap, ◌∙◌, subst, ap₂}
use Rattle.std.specs.Option.{option_map}
use Rattle.std.proofs.lemmas.Bool.{and_parts, false≢true}
use Rattle.tokens.specs.Numbers.{natural_of}
use Rattle.tokens.specs.Tokens.{Mark, opening, closing, word, number, stray, is_token, all_tokens, tokens_of}
use Rattle.tokens.proofs.Spelling.{tokens_spelled}
use Rattle.tokens.proofs.Strays.{no_stray, all_tokens_line}
use Rattle.forms.specs.declared.form.Setting.{Setting}
use Rattle.forms.specs.declared.form.Setting.TheVariants.{Cycle, Start, Timeout, Catch}
use Rattle.forms.specs.Forms.{name_in, digits_in, bind, between, is_over, acts_in, is_closed, time_in, task_in, form_by, form_after, form_in, form_of}
use Rattle.forms.specs.Meaning.{Says, setting, task}
use Rattle.grammar.specs.Reads.{Writes, with_number, SaysSetting, SaysTask, no_break, Line}
use Rattle.grammar.proofs.Cases.{none≢some, some_same, cond_some, mapped_some, bind_some, by_keyword}
use Rattle.grammar.proofs.Written.{natural_of_writes, writes_natural_of}
use Rattle.grammar.proofs.Acts.{name_in_named, named_name_in, acts_in_closes, acts_in_closed, is_over_unstray, acts_in_between_unstray}

-- the tokens say what a line may say; on which line they stand is left open
abbrev pub SaysForm : Says → List Mark → Type 0
SaysForm (setting s) ms = SaysSetting s ms
SaysForm (task w acts) ms = SaysTask (record { name = w; acts = acts; line = 0 }) ms

is_over_none : (ms : List Mark) → is_over ms ≡ true → ms ≡ []
is_over_none [] h = refl
is_over_none (m ∷ ms) h = absurd (false≢true h)

is_closed_closing : (ms : List Mark) → is_closed ms ≡ true → ms ≡ closing ∷ []
is_closed_closing [] h = absurd (false≢true h)
is_closed_closing (opening ∷ ms) h = absurd (false≢true h)
is_closed_closing (closing ∷ ms) h = ap (λ x. closing ∷ x) (is_over_none ms h)
is_closed_closing (word w ∷ ms) h = absurd (false≢true h)
is_closed_closing (number w ∷ ms) h = absurd (false≢true h)
is_closed_closing (stray ∷ ms) h = absurd (false≢true h)

cond_none : {A : Type 0} (t : Bool) (o : Option A) (x : A) → cond t o None ≡ Some x → (t ≡ true) × (o ≡ Some x)
cond_none true o x h = (refl, h)
cond_none false o x h = absurd (none≢some h)

digits_in_number : (m : Mark) (w : List ℕ) → digits_in m ≡ Some w → m ≡ number w
digits_in_number opening w h = absurd (none≢some h)
digits_in_number closing w h = absurd (none≢some h)
digits_in_number (word v) w h = absurd (none≢some h)
digits_in_number (number v) w h = ap number (some_same h)
digits_in_number stray w h = absurd (none≢some h)

time_in_writes : (ms : List Mark) (n : ℕ) → time_in ms ≡ Some n → (w : List ℕ) × (ms ≡ number w ∷ closing ∷ []) × Writes 64 n w
time_in_writes [] n h = absurd (none≢some h)
time_in_writes (m ∷ ms) n h =
    let is = cond_none (is_closed ms) (bind (digits_in m) (natural_of 64)) n h in
    let some = bind_some (digits_in m) (natural_of 64) n is.1 in
    (some.0, ap₂ ◌∷◌ (digits_in_number m some.0 some.1) (is_closed_closing ms is.0), natural_of_writes 64 n some.0 some.2)

-- a setting that a keyword and a time say
time_says : (K : List ℕ) (f : ℕ → Setting) → ((n : ℕ) (ms : List Mark) → (w : List ℕ) × (ms ≡ with_number K w) × Writes 64 n w → SaysSetting (f n) ms)
    → (k : List ℕ) (ms : List Mark) (x : Says) → k ≡ K → option_map (λ n. setting (f n)) (time_in ms) ≡ Some x → SaysForm x (opening ∷ word k ∷ ms)
time_says K f says k ms x e h =
    let is = mapped_some (λ n. setting (f n)) (time_in ms) x h in
    let time = time_in_writes ms is.0 is.1 in
    subst (λ y. SaysForm y (opening ∷ word k ∷ ms)) (sym is.2)
    (says is.0 (opening ∷ word k ∷ ms) (time.0, ap₂ (λ v more. opening ∷ word v ∷ more) e time.1, time.2))

catch_says : (k : List ℕ) (ms : List Mark) (x : Says) → k ≡ codes "catch" → cond (is_closed ms) (Some (setting Catch)) None ≡ Some x → SaysForm x (opening ∷ word k ∷ ms)
catch_says k ms x e h =
    let is = cond_some (is_closed ms) (setting Catch) x h in
    subst (λ y. SaysForm y (opening ∷ word k ∷ ms)) is.1 (ap₂ (λ v more. opening ∷ word v ∷ more) e (is_closed_closing ms is.0))

task_says : (k : List ℕ) (ms : List Mark) (x : Says) → all_tokens ms ≡ true → k ≡ codes "task" → task_in ms ≡ Some x → SaysForm x (opening ∷ word k ∷ ms)
unfolding all_tokens
task_says k [] x t e h = absurd (none≢some h)
task_says k (m ∷ ms) x t e h =
    let both = and_parts (is_token m) (all_tokens ms) t in
    let name = bind_some (name_in m) (λ w. option_map (task w) (acts_in between ms)) x h in
    let acts = mapped_some (task name.0) (acts_in between ms) x name.2 in
    let closes = acts_in_closes ms acts.0 both.1 acts.1 in
    subst (λ y. SaysForm y (opening ∷ word k ∷ m ∷ ms)) (sym acts.2)
    (closes.0, (λ i. opening ∷ word (e i) ∷ named_name_in m name.0 both.0 name.1 i ∷ closes.1 i), closes.2)

form_by_says : (k : List ℕ) (ms : List Mark) (x : Says) → all_tokens ms ≡ true → form_by k ms ≡ Some x → SaysForm x (opening ∷ word k ∷ ms)
form_by_says k ms x t =
    by_keyword k (codes "cycle") _ _ x (time_says (codes "cycle") Cycle (λ n ms h. h) k ms x)
    (by_keyword k (codes "start") _ _ x (time_says (codes "start") Start (λ n ms h. h) k ms x)
    (by_keyword k (codes "timeout") _ _ x (time_says (codes "timeout") Timeout (λ n ms h. h) k ms x)
    (by_keyword k (codes "catch") _ _ x (catch_says k ms x)
    (by_keyword k (codes "task") _ _ x (task_says k ms x t)
    (λ h. absurd (none≢some h))))))

form_after_says : (ms : List Mark) (x : Says) → all_tokens ms ≡ true → form_after ms ≡ Some x → SaysForm x (opening ∷ ms)
unfolding all_tokens
form_after_says [] x t h = absurd (none≢some h)
form_after_says (opening ∷ ms) x t h = absurd (none≢some h)
form_after_says (closing ∷ ms) x t h = absurd (none≢some h)
form_after_says (word k ∷ ms) x t h = form_by_says k ms x (and_parts (is_token (word k)) (all_tokens ms) t).1 h
form_after_says (number k ∷ ms) x t h = absurd (none≢some h)
form_after_says (stray ∷ ms) x t h = absurd (none≢some h)

-- tokens that are a form say it
form_in_says : (ms : List Mark) (x : Says) → all_tokens ms ≡ true → form_in ms ≡ Some x → SaysForm x ms
unfolding all_tokens
form_in_says [] x t h = absurd (none≢some h)
form_in_says (opening ∷ ms) x t h = form_after_says ms x t h
form_in_says (closing ∷ ms) x t h = absurd (none≢some h)
form_in_says (word w ∷ ms) x t h = absurd (none≢some h)
form_in_says (number w ∷ ms) x t h = absurd (none≢some h)
form_in_says (stray ∷ ms) x t h = absurd (none≢some h)

is_closed_unstray : (ms : List Mark) → is_closed ms ≡ true → no_stray ms ≡ true
unfolding no_stray
is_closed_unstray [] h = refl
is_closed_unstray (opening ∷ ms) h = absurd (false≢true h)
is_closed_unstray (closing ∷ ms) h = is_over_unstray ms h
is_closed_unstray (word w ∷ ms) h = absurd (false≢true h)
is_closed_unstray (number w ∷ ms) h = absurd (false≢true h)
is_closed_unstray (stray ∷ ms) h = absurd (false≢true h)

time_unstray : (f : ℕ → Says) (ms : List Mark) (x : Says) → option_map f (time_in ms) ≡ Some x → no_stray ms ≡ true
unfolding no_stray
time_unstray f ms x h =
    let is = mapped_some f (time_in ms) x h in
    ap no_stray (time_in_writes ms is.0 is.1).1

named_unstray : (m : Mark) (ms : List Mark) (w : List ℕ) → name_in m ≡ Some w → no_stray ms ≡ true → no_stray (m ∷ ms) ≡ true
unfolding no_stray
named_unstray opening ms w e h = h
named_unstray closing ms w e h = h
named_unstray (word v) ms w e h = h
named_unstray (number v) ms w e h = h
named_unstray stray ms w e h = absurd (none≢some e)

task_in_unstray : (ms : List Mark) (x : Says) → task_in ms ≡ Some x → no_stray ms ≡ true
task_in_unstray [] x h = absurd (none≢some h)
task_in_unstray (m ∷ ms) x h =
    let name = bind_some (name_in m) (λ w. option_map (task w) (acts_in between ms)) x h in
    let acts = mapped_some (task name.0) (acts_in between ms) x name.2 in
    named_unstray m ms name.0 name.1 (acts_in_between_unstray ms acts.0 acts.1)

form_by_unstray : (k : List ℕ) (ms : List Mark) (x : Says) → form_by k ms ≡ Some x → no_stray ms ≡ true
form_by_unstray k ms x =
    by_keyword k (codes "cycle") _ _ x (λ e. time_unstray (λ n. setting (Cycle n)) ms x)
    (by_keyword k (codes "start") _ _ x (λ e. time_unstray (λ n. setting (Start n)) ms x)
    (by_keyword k (codes "timeout") _ _ x (λ e. time_unstray (λ n. setting (Timeout n)) ms x)
    (by_keyword k (codes "catch") _ _ x (λ e h. is_closed_unstray ms (cond_some (is_closed ms) (setting Catch) x h).0)
    (by_keyword k (codes "task") _ _ x (λ e. task_in_unstray ms x)
    (λ h. absurd (none≢some h))))))

form_after_unstray : (ms : List Mark) (x : Says) → form_after ms ≡ Some x → no_stray ms ≡ true
unfolding no_stray
form_after_unstray [] x h = refl
form_after_unstray (opening ∷ ms) x h = absurd (none≢some h)
form_after_unstray (closing ∷ ms) x h = absurd (none≢some h)
form_after_unstray (word k ∷ ms) x h = form_by_unstray k ms x h
form_after_unstray (number k ∷ ms) x h = absurd (none≢some h)
form_after_unstray (stray ∷ ms) x h = absurd (none≢some h)

-- nothing is stray in what is a form
form_in_unstray : (ms : List Mark) (x : Says) → form_in ms ≡ Some x → no_stray ms ≡ true
unfolding no_stray
form_in_unstray [] x h = refl
form_in_unstray (opening ∷ ms) x h = form_after_unstray ms x h
form_in_unstray (closing ∷ ms) x h = absurd (none≢some h)
form_in_unstray (word w ∷ ms) x h = absurd (none≢some h)
form_in_unstray (number w ∷ ms) x h = absurd (none≢some h)
form_in_unstray (stray ∷ ms) x h = absurd (none≢some h)

-- tokens that say a form are that form
form_in_said : (x : Says) (ms : List Mark) → SaysForm x ms → form_in ms ≡ Some x
form_in_said (setting (Cycle n)) ms h = ap form_in h.1 ∙ ap (option_map (λ k. setting (Cycle k))) (writes_natural_of 64 n h.0 h.2)
form_in_said (setting (Start n)) ms h = ap form_in h.1 ∙ ap (option_map (λ k. setting (Start k))) (writes_natural_of 64 n h.0 h.2)
form_in_said (setting (Timeout n)) ms h = ap form_in h.1 ∙ ap (option_map (λ k. setting (Timeout k))) (writes_natural_of 64 n h.0 h.2)
form_in_said (setting Catch) ms h = ap form_in h
form_in_said (task w acts) ms h =
    ap form_in h.1
    ∙ (ap (λ o. bind o (λ v. option_map (task v) (acts_in between (h.0 ++ closing ∷ [])))) (name_in_named w)
    ∙ ap (option_map (task w)) (acts_in_closed acts h.0 h.2))

-- a line that is a form says it
pub form_of_says : (l : List ℕ) (x : Says) → no_break l ≡ true → form_of l ≡ Some x → Line (SaysForm x) l
form_of_says l x whole h =
    let t = all_tokens_line l (form_in_unstray (tokens_of l) x h) in
    (tokens_of l, t, (tokens_spelled l).0 t, whole, form_in_says (tokens_of l) x t h)

-- a line that says a form is that form
pub form_of_said : (l : List ℕ) (x : Says) → Line (SaysForm x) l → form_of l ≡ Some x
form_of_said l x h = ap form_in ((tokens_spelled l).1 h.0 h.1 h.2) ∙ form_in_said x h.0 h.4
