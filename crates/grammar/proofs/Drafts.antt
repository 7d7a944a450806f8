-- Lines are drafted exactly if they are lines of settings and then of tasks, within the limits. Assumes nothing.
use Rattle.std.proofs.Common.{◌≡◌, ℕ, suc, ◌+◌, ◌<◌, ◌≤◌, Bool, true, false, not, ◌||◌, ltb, leb, List, [], ◌∷◌, ◌++◌, length, is_some, Some, None, Ok, Err, Option, Result, sym, refl, ap, ◌∙◌, subst, append_assoc, append-nil, arith, length-append}
use Rattle.std.specs.Option.{option_or}
use Rattle.std.proofs.lemmas.Bool.{false≢true, both_ways, and_parts, and_from, and_left, cond-true, ltb-true, lt-ltb, leb-true, le-leb}
use Rattle.tokens.specs.Numbers.{is_empty}
use Rattle.faults.specs.declared.fault.Fault.{Fault}
use Rattle.faults.specs.declared.fault.Reason.TheVariants.{NoForm, TooMany}
use Rattle.forms.specs.declared.form.Setting.{Setting}
use Rattle.forms.specs.declared.form.Setting.TheVariants.{Cycle, Start, Timeout, Catch}
use Rattle.faults.specs.Faults.{at}
use Rattle.forms.specs.Forms.{form_of}
use Rattle.forms.specs.Meaning.{Act, Task, Says, setting, task}
use Rattle.grammar.specs.Reading.{most_tasks, most_steps, Draft, no_task, in_place, with_setting, with_task, has_room, drafted, and_then, draft_of}
use Rattle.grammar.specs.Reads.{SaysSetting, SaysTask, no_break, Line, SettingLines, TaskLines, cycle_in, start_in, timeout_in, catch_in, New, OnceEach, FewSteps}
use Rattle.grammar.proofs.Breaks.{NoBreaks}
use Rattle.grammar.proofs.Cases.{none≢some, err≢ok, cond_ok, and_then_ok}
use Rattle.grammar.proofs.Sayings.{form_of_says, form_of_said}

-- the draft with tasks more
abbrev pub with_tasks : List Task → Draft → Draft
with_tasks ts d = record { cycle = d.cycle; start = d.start; timeout = d.timeout; catch = d.catch; tasks = d.tasks ++ ts }

-- the draft with what settings give
abbrev pub with_settings : List Setting → Draft → Draft
with_settings ss d =
    record { cycle = option_or (cycle_in ss) d.cycle; start = option_or (start_in ss) d.start; timeout = option_or (timeout_in ss) d.timeout; catch = catch_in ss || d.catch; tasks = d.tasks }

with_tasks_none : (d : Draft) → d ≡ with_tasks [] d
with_tasks_none d = ap (λ (ts : List Task). record { cycle = d.cycle; start = d.start; timeout = d.timeout; catch = d.catch; tasks = ts }) (sym (append-nil d.tasks))

with_tasks_more : (t : Task) (ts : List Task) (d : Draft) → with_tasks ts (with_task t d) ≡ with_tasks (t ∷ ts) d
with_tasks_more t ts d = ap (λ (us : List Task). record { cycle = d.cycle; start = d.start; timeout = d.timeout; catch = d.catch; tasks = us }) (append_assoc d.tasks (t ∷ []) ts)

length_with_task : (t : Task) (d : Draft) → length (with_task t d).tasks ≡ length d.tasks + 1
length_with_task t d = length-append d.tasks (t ∷ [])

-- lines that are drafted as tasks, after a draft
pub record Tasked (n : ℕ) (d : Draft) (ls : List (List ℕ)) (rest : List ℕ) (after : Draft) : Type 0 where
  pub tasks : List Task
  pub over : rest ≡ []
  pub says : TaskLines n tasks ls
  pub few : FewSteps tasks
  pub room : length d.tasks + length tasks ≤ most_tasks
  pub is : after ≡ with_tasks tasks d

is_empty_none : (bs : List ℕ) → is_empty bs ≡ true → bs ≡ []
is_empty_none [] h = refl
is_empty_none (b ∷ bs) h = absurd (false≢true h)

tasked_none : (n : ℕ) (d : Draft) (rest : List ℕ) (after : Draft) → length d.tasks ≤ most_tasks → draft_of n d [] rest ≡ Ok after → Tasked n d [] rest after
unfolding draft_of TaskLines FewSteps
tasked_none n d rest after room h =
    let is = cond_ok (is_empty rest) d after (at n NoForm) h in
    record { tasks = []; over = is_empty_none rest is.0; says = tt; few = tt; room = omega arith; is = sym is.1 ∙ with_tasks_none d }

no_task_push : (ts : List Task) (t : Task) → no_task (ts ++ t ∷ []) ≡ false
no_task_push [] t = refl
no_task_push (u ∷ ts) t = refl

-- the tasks that follow a draft which has one
abbrev Later : ℕ → List (List ℕ) → List ℕ → Draft → Type 0
Later n ls rest after = (d : Draft) → no_task d.tasks ≡ false → length d.tasks ≤ most_tasks → draft_of n d ls rest ≡ Ok after → Tasked n d ls rest after

-- the draft after a line that says so, and after those that follow it
abbrev onward : ℕ → Option Says → Draft → List (List ℕ) → List ℕ → Result Draft Fault
onward n o d ls rest = and_then (drafted n o d) (λ more. draft_of (n + 1) more ls rest)

tasked_first : (n : ℕ) (l : List ℕ) (ls : List (List ℕ)) (rest : List ℕ) (d after : Draft) (w : List ℕ) (acts : List Act) → no_break l ≡ true
    → form_of l ≡ Some (task w acts) → onward n (Some (task w acts)) d ls rest ≡ Ok after → Later (n + 1) ls rest after → Tasked n d (l ∷ ls) rest after
unfolding TaskLines FewSteps
tasked_first n l ls rest d after w acts whole form h later =
    let t : Task = record { name = w; acts = acts; line = n } in
    let step = and_then_ok (drafted n (Some (task w acts)) d) (λ more. draft_of (n + 1) more ls rest) after h in
    let fits = cond_ok (has_room d.tasks acts) (with_task t d) step.0 (at n TooMany) step.1 in
    let both = and_parts (ltb (length d.tasks) most_tasks) (leb (length acts) most_steps) fits.0 in
    let longer : length (with_task t d).tasks ≤ most_tasks = omega (arith, length_with_task t d, ltb-true (length d.tasks) most_tasks both.0) in
    let more = later (with_task t d) (no_task_push d.tasks t) longer (subst (λ x. draft_of (n + 1) x ls rest ≡ Ok after) (sym fits.1) step.2) in
    record {
      tasks = t ∷ more.tasks;
      over = more.over;
      says = (refl, form_of_says l (task w acts) whole form, more.says);
      few = (leb-true (length acts) most_steps both.1, more.few);
      room = omega (arith, length_with_task t d, more.room);
      is = more.is ∙ with_tasks_more t more.tasks d;
    }

in_place_late : (s : Setting) (d : Draft) → no_task d.tasks ≡ false → in_place s d ≡ false
in_place_late (Cycle n) d h = and_left (no_task d.tasks) (not (is_some d.cycle)) h
in_place_late (Start n) d h = and_left (no_task d.tasks) (not (is_some d.start)) h
in_place_late (Timeout n) d h = and_left (no_task d.tasks) (not (is_some d.timeout)) h
in_place_late Catch d h = and_left (no_task d.tasks) (not d.catch) h

-- a setting that is drafted stands in its place
onward_setting : (n : ℕ) (s : Setting) (d : Draft) (ls : List (List ℕ)) (rest : List ℕ) (after : Draft) → onward n (Some (setting s)) d ls rest ≡ Ok after
    → (in_place s d ≡ true) × (draft_of (n + 1) (with_setting s d) ls rest ≡ Ok after)
onward_setting n s d ls rest after h =
    let step = and_then_ok (drafted n (Some (setting s)) d) (λ more. draft_of (n + 1) more ls rest) after h in
    let fits = cond_ok (in_place s d) (with_setting s d) step.0 (at n NoForm) step.1 in
    (fits.0, subst (λ x. draft_of (n + 1) x ls rest ≡ Ok after) (sym fits.1) step.2)

tasked_line : (n : ℕ) (l : List ℕ) (ls : List (List ℕ)) (rest : List ℕ) (d after : Draft) (o : Option Says) → no_break l ≡ true → no_task d.tasks ≡ false
    → form_of l ≡ o → onward n o d ls rest ≡ Ok after → Later (n + 1) ls rest after → Tasked n d (l ∷ ls) rest after
tasked_line n l ls rest d after None whole late form h later = absurd (err≢ok h)
tasked_line n l ls rest d after (Some (setting s)) whole late form h later = absurd (both_ways (in_place s d) (in_place_late s d late) (onward_setting n s d ls rest after h).0)
tasked_line n l ls rest d after (Some (task w acts)) whole late form h later = tasked_first n l ls rest d after w acts whole form h later

-- lines that are drafted after a task say tasks
tasked : (ls : List (List ℕ)) (n : ℕ) (rest : List ℕ) (after : Draft) → NoBreaks ls → Later n ls rest after
unfolding draft_of
tasked [] n rest after whole d late room h = tasked_none n d rest after room h
tasked (l ∷ ls) n rest after whole d late room h = tasked_line n l ls rest d after (form_of l) whole.0 late refl h (tasked ls (n + 1) rest after whole.1)

-- a value that was given is not given again
abbrev Clear : Option ℕ → Option ℕ → Type 0
Clear None o = Unit {0}
Clear (Some n) o = o ≡ None

abbrev Unset : Bool → Bool → Type 0
Unset false b = Unit {0}
Unset true b = b ≡ false

-- the settings give nothing that the draft has
abbrev pub Free : Draft → List Setting → Type 0
Free d ss = Clear d.cycle (cycle_in ss) × Clear d.start (start_in ss) × Clear d.timeout (timeout_in ss) × Unset d.catch (catch_in ss)

clear_none : (o : Option ℕ) → Clear o None
clear_none None = tt
clear_none (Some n) = refl

unset_false : (b : Bool) → Unset b false
unset_false false = tt
unset_false true = refl

clear_some : (o : Option ℕ) (n : ℕ) → Clear o (Some n) → not (is_some o) ≡ true
clear_some None n h = refl
clear_some (Some m) n h = absurd (none≢some (sym h))

some_clear : (o : Option ℕ) (n : ℕ) → not (is_some o) ≡ true → Clear o (Some n)
some_clear None n h = tt
some_clear (Some m) n h = absurd (false≢true h)

unset_true : (b : Bool) → Unset b true → not b ≡ true
unset_true false h = refl
unset_true true h = sym h

true_unset : (b : Bool) → not b ≡ true → Unset b true
true_unset false h = tt
true_unset true h = absurd (false≢true h)

-- a first setting is in its place, and the others are after it
free_placed : (s : Setting) (ss : List Setting) (d : Draft) → no_task d.tasks ≡ true → Free d (s ∷ ss) → New s ss → (in_place s d ≡ true) × Free (with_setting s d) ss
unfolding cycle_in start_in timeout_in catch_in
free_placed (Cycle n) ss d t f new = (and_from (no_task d.tasks) (not (is_some d.cycle)) t (clear_some d.cycle n f.0), (new, f.1, f.2, f.3))
free_placed (Start n) ss d t f new = (and_from (no_task d.tasks) (not (is_some d.start)) t (clear_some d.start n f.1), (f.0, new, f.2, f.3))
free_placed (Timeout n) ss d t f new = (and_from (no_task d.tasks) (not (is_some d.timeout)) t (clear_some d.timeout n f.2), (f.0, f.1, new, f.3))
free_placed Catch ss d t f new = (and_from (no_task d.tasks) (not d.catch) t (unset_true d.catch f.3), (f.0, f.1, f.2, new))

placed_free : (s : Setting) (ss : List Setting) (d : Draft) → in_place s d ≡ true → Free (with_setting s d) ss → Free d (s ∷ ss) × New s ss
unfolding cycle_in start_in timeout_in catch_in
placed_free (Cycle n) ss d h f = ((some_clear d.cycle n (and_parts (no_task d.tasks) (not (is_some d.cycle)) h).1, f.1, f.2, f.3), f.0)
placed_free (Start n) ss d h f = ((f.0, some_clear d.start n (and_parts (no_task d.tasks) (not (is_some d.start)) h).1, f.2, f.3), f.1)
placed_free (Timeout n) ss d h f = ((f.0, f.1, some_clear d.timeout n (and_parts (no_task d.tasks) (not (is_some d.timeout)) h).1, f.3), f.2)
placed_free Catch ss d h f = ((f.0, f.1, f.2, true_unset d.catch (and_parts (no_task d.tasks) (not d.catch) h).1), f.3)

with_settings_more : (s : Setting) (ss : List Setting) (d : Draft) → New s ss → with_settings ss (with_setting s d) ≡ with_settings (s ∷ ss) d
unfolding cycle_in start_in timeout_in catch_in
with_settings_more (Cycle n) ss d new = λ i. record { cycle = option_or (new i) (Some n); start = option_or (start_in ss) d.start; timeout = option_or (timeout_in ss) d.timeout; catch = catch_in ss || d.catch; tasks = d.tasks }
with_settings_more (Start n) ss d new = λ i. record { cycle = option_or (cycle_in ss) d.cycle; start = option_or (new i) (Some n); timeout = option_or (timeout_in ss) d.timeout; catch = catch_in ss || d.catch; tasks = d.tasks }
with_settings_more (Timeout n) ss d new = λ i. record { cycle = option_or (cycle_in ss) d.cycle; start = option_or (start_in ss) d.start; timeout = option_or (new i) (Some n); catch = catch_in ss || d.catch; tasks = d.tasks }
with_settings_more Catch ss d new = λ i. record { cycle = option_or (cycle_in ss) d.cycle; start = option_or (start_in ss) d.start; timeout = option_or (timeout_in ss) d.timeout; catch = new i || true; tasks = d.tasks }

tasks_with_setting : (s : Setting) (d : Draft) → (with_setting s d).tasks ≡ d.tasks
tasks_with_setting (Cycle n) d = refl
tasks_with_setting (Start n) d = refl
tasks_with_setting (Timeout n) d = refl
tasks_with_setting Catch d = refl

-- lines that are drafted as settings and then as tasks, after a draft without tasks
pub record Settled (n : ℕ) (d : Draft) (ls : List (List ℕ)) (rest : List ℕ) (after : Draft) : Type 0 where
  pub settings : List Setting
  pub heads : List (List ℕ)
  pub bodies : List (List ℕ)
  pub split : ls ≡ heads ++ bodies
  pub says : SettingLines settings heads
  pub once : OnceEach settings
  pub free : Free d settings
  pub then : Tasked (length heads + n) (with_settings settings d) bodies rest after

-- no line of settings is left
settled_none : (n : ℕ) (d : Draft) (ls : List (List ℕ)) (rest : List ℕ) (after : Draft) → Tasked n d ls rest after → Settled n d ls rest after
unfolding SettingLines OnceEach cycle_in start_in timeout_in catch_in
settled_none n d ls rest after then =
    let same : n ≡ 0 + n = omega arith in
    record {
      settings = [];
      heads = [];
      bodies = ls;
      split = refl;
      says = tt;
      once = tt;
      free = (clear_none d.cycle, clear_none d.start, clear_none d.timeout, unset_false d.catch);
      then = subst (λ k. Tasked k d ls rest after) same then;
    }

settled_first : (n : ℕ) (l : List ℕ) (ls : List (List ℕ)) (rest : List ℕ) (d after : Draft) (s : Setting) → no_break l ≡ true → form_of l ≡ Some (setting s) → in_place s d ≡ true
    → Settled (n + 1) (with_setting s d) ls rest after → Settled n d (l ∷ ls) rest after
unfolding SettingLines OnceEach
settled_first n l ls rest d after s whole form h more =
    let free = placed_free s more.settings d h more.free in
    let counted : length more.heads + (n + 1) ≡ suc (length more.heads) + n = omega arith in
    record {
      settings = s ∷ more.settings;
      heads = l ∷ more.heads;
      bodies = more.bodies;
      split = ap (λ x. l ∷ x) more.split;
      says = (form_of_says l (setting s) whole form, more.says);
      once = (free.1, more.once);
      free = free.0;
      then = subst (λ k. Tasked k (with_settings (s ∷ more.settings) d) more.bodies rest after) counted
          (subst (λ x. Tasked (length more.heads + (n + 1)) x more.bodies rest after) (with_settings_more s more.settings d free.1) more.then);
    }

length_no_task : (ts : List Task) → no_task ts ≡ true → length ts ≤ most_tasks
length_no_task [] h = omega arith
length_no_task (t ∷ ts) h = absurd (false≢true h)

settled_line : (n : ℕ) (l : List ℕ) (ls : List (List ℕ)) (rest : List ℕ) (d after : Draft) (o : Option Says) → NoBreaks (l ∷ ls) → no_task d.tasks ≡ true → form_of l ≡ o
    → onward n o d ls rest ≡ Ok after → ((e : Draft) → no_task e.tasks ≡ true → draft_of (n + 1) e ls rest ≡ Ok after → Settled (n + 1) e ls rest after) → Settled n d (l ∷ ls) rest after
settled_line n l ls rest d after None whole early form h more = absurd (err≢ok h)
settled_line n l ls rest d after (Some (setting s)) whole early form h more =
    let step = onward_setting n s d ls rest after h in
    settled_first n l ls rest d after s whole.0 form step.0 (more (with_setting s d) (ap no_task (tasks_with_setting s d) ∙ early) step.1)
settled_line n l ls rest d after (Some (task w acts)) whole early form h more =
    settled_none n d (l ∷ ls) rest after (tasked_first n l ls rest d after w acts whole.0 form h (tasked ls (n + 1) rest after whole.1))

-- lines that are drafted after a draft without tasks say settings and then tasks
pub settled : (ls : List (List ℕ)) (n : ℕ) (rest : List ℕ) (d after : Draft) → NoBreaks ls → no_task d.tasks ≡ true → draft_of n d ls rest ≡ Ok after → Settled n d ls rest after
unfolding draft_of
settled [] n rest d after whole early h = settled_none n d [] rest after (tasked_none n d rest after (length_no_task d.tasks early) h)
settled (l ∷ ls) n rest d after whole early h =
    settled_line n l ls rest d after (form_of l) whole early refl h (λ e e-early e-h. settled ls (n + 1) rest e after whole.1 e-early e-h)

drafted_task : (n : ℕ) (l : List ℕ) (t : Task) (d : Draft) → t.line ≡ n → Line (SaysTask t) l → length d.tasks < most_tasks → length t.acts ≤ most_steps
    → drafted n (form_of l) d ≡ Ok (with_task t d)
drafted_task n l t d e says few short =
    ap (λ o. drafted n o d) (form_of_said l (task t.name t.acts) says)
    ∙ (cond-true (has_room d.tasks t.acts) (Ok (with_task (record { name = t.name; acts = t.acts; line = n }) d)) (Err (at n TooMany))
    (and_from (ltb (length d.tasks) most_tasks) (leb (length t.acts) most_steps) (lt-ltb (length d.tasks) most_tasks few) (le-leb (length t.acts) most_steps short))
    ∙ ap (λ k. Ok (with_task (record { name = t.name; acts = t.acts; line = k }) d)) (sym e))

-- lines that say tasks, within the limits, are drafted as these
pub draft_of_tasks : (ls : List (List ℕ)) (ts : List Task) (n : ℕ) (d : Draft) → TaskLines n ts ls → FewSteps ts → length d.tasks + length ts ≤ most_tasks
    → draft_of n d ls [] ≡ Ok (with_tasks ts d)
unfolding draft_of TaskLines FewSteps
draft_of_tasks [] [] n d says few room = ap (λ x. Ok x) (with_tasks_none d)
draft_of_tasks [] (t ∷ ts) n d says few room = absurd says
draft_of_tasks (l ∷ ls) [] n d says few room = absurd says
draft_of_tasks (l ∷ ls) (t ∷ ts) n d says few room =
    let fewer : length d.tasks < most_tasks = omega arith in
    let enough : length (with_task t d).tasks + length ts ≤ most_tasks = omega (arith, length_with_task t d, room) in
    ap (λ r. and_then r (λ more. draft_of (n + 1) more ls [])) (drafted_task n l t d says.0 says.1 fewer few.0)
    ∙ (draft_of_tasks ls ts (n + 1) (with_task t d) says.2 few.1 enough
    ∙ ap (λ x. Ok x) (with_tasks_more t ts d))

drafted_setting : (n : ℕ) (l : List ℕ) (s : Setting) (d : Draft) → Line (SaysSetting s) l → in_place s d ≡ true → drafted n (form_of l) d ≡ Ok (with_setting s d)
drafted_setting n l s d says h = ap (λ o. drafted n o d) (form_of_said l (setting s) says) ∙ cond-true (in_place s d) (Ok (with_setting s d)) (Err (at n NoForm)) h

-- lines that say settings, each once and none that the draft has, are drafted as these
pub draft_of_settings : (heads : List (List ℕ)) (ss : List Setting) (bodies : List (List ℕ)) (n : ℕ) (d : Draft) → no_task d.tasks ≡ true → SettingLines ss heads → OnceEach ss
    → Free d ss → draft_of n d (heads ++ bodies) [] ≡ draft_of (length heads + n) (with_settings ss d) bodies []
unfolding draft_of SettingLines OnceEach cycle_in start_in timeout_in catch_in
draft_of_settings [] [] bodies n d early says once free = let same : n ≡ 0 + n = omega arith in ap (λ k. draft_of k d bodies []) same
draft_of_settings [] (s ∷ ss) bodies n d early says once free = absurd says
draft_of_settings (l ∷ heads) [] bodies n d early says once free = absurd says
draft_of_settings (l ∷ heads) (s ∷ ss) bodies n d early says once free =
    let step = free_placed s ss d early free once.0 in
    let counted : length heads + (n + 1) ≡ suc (length heads) + n = omega arith in
    ap (λ r. and_then r (λ more. draft_of (n + 1) more (heads ++ bodies) [])) (drafted_setting n l s d says.0 step.0)
    ∙ (draft_of_settings heads ss bodies (n + 1) (with_setting s d) (ap no_task (tasks_with_setting s d) ∙ early) says.1 once.1 step.1
    ∙ (ap (λ x. draft_of (length heads + (n + 1)) x bodies []) (with_settings_more s ss d once.0)
    ∙ ap (λ k. draft_of k (with_settings (s ∷ ss) d) bodies []) counted))

-- lines that say something have no LF
pub settings_unbroken : (heads : List (List ℕ)) (ss : List Setting) → SettingLines ss heads → NoBreaks heads
unfolding SettingLines
settings_unbroken [] [] h = tt
settings_unbroken [] (s ∷ ss) h = absurd h
settings_unbroken (l ∷ heads) [] h = absurd h
settings_unbroken (l ∷ heads) (s ∷ ss) h = (h.0.3, settings_unbroken heads ss h.1)

pub tasks_unbroken : (bodies : List (List ℕ)) (n : ℕ) (ts : List Task) → TaskLines n ts bodies → NoBreaks bodies
unfolding TaskLines
tasks_unbroken [] n [] h = tt
tasks_unbroken [] n (t ∷ ts) h = absurd h
tasks_unbroken (l ∷ bodies) n [] h = absurd h
tasks_unbroken (l ∷ bodies) n (t ∷ ts) h = (h.1.3, tasks_unbroken bodies (n + 1) ts h.2)
