-- The canonical spelling of a plan says that plan, with each task on its line there.
use Rattle.std.proofs.Common.{◌≡◌, ℕ, ◌+◌, Bool, true, false, cond, List, [], ◌∷◌, ◌++◌, length, is_some, Some, None, codes, decimal, Option, sym, refl, ap, ◌∙◌, subst, append_assoc, arith}
use Rattle.std.specs.Fmt.{signed_decimal}
use Rattle.tokens.specs.Numbers.{is_number}
use Rattle.tokens.specs.Tokens.{Mark, opening, closing, word, number, Place, begun, ended, named, due, spell}
use Rattle.forms.specs.declared.form.Setting.{Setting}
use Rattle.forms.specs.declared.form.Setting.TheVariants.{Cycle, Start, Timeout, Catch}
use Rattle.lines.specs.Lines.{bytes_of}
use Rattle.forms.specs.Meaning.{Act, sleep, spawn, wake, abort, stop, await, done, fault, Task, Plan}
use Rattle.grammar.specs.Reads.{no_break, with_name, with_number, SaysAct, SaysActs, SaysSetting, SaysTask, SettingLines, TaskLines, cycle_in, start_in, timeout_in, catch_in, OnceEach, Reads}
use Rattle.grammar.specs.Spellable.{Fits, IsName, SpellableAct, SpellableActs, SpellableTimeout, SpellableTask, SpellableTasks, Spellable}
use Rattle.grammar.specs.Spelled.{ending, spelled_act, spelled_acts, spelled_task, spelled_tasks, spelled_timeout, spelled_catch, spelled, placed_from, first_line, placed}
use Rattle.grammar.proofs.Unbroken.{Sound, AllSound, all_sound_append, sound_named, sound_decimal, sound_signed, line_spelled}
use Rattle.grammar.proofs.Decimals.{writes_decimal, writes_signed, signed_fits_32, signed_fits_64}
use Rattle.grammar.proofs.Placing.{names_stand_placed}

-- the tokens of an act
abbrev act_marks : Act → List Mark
act_marks (sleep n) = with_number (codes "sleep") (decimal n)
act_marks (spawn w) = with_name (codes "spawn") w
act_marks (wake w) = with_name (codes "wake") w
act_marks (abort w) = with_name (codes "abort") w
act_marks (stop z) = with_number (codes "stop") (signed_decimal z)
act_marks await = opening ∷ word (codes "await") ∷ closing ∷ []
act_marks (done z) = with_number (codes "done") (signed_decimal z)
act_marks (fault n) = with_number (codes "fault") (decimal n)

-- the tokens of acts
abbrev step_marks : List Act → List Mark
step_marks [] = []
step_marks (a ∷ more) = act_marks a ++ step_marks more

-- the tokens of a task
abbrev task_marks : Task → List Mark
task_marks t = opening ∷ word (codes "task") ∷ named t.name ∷ (step_marks t.acts ++ closing ∷ [])

-- the tokens of a setting
abbrev setting_marks : Setting → List Mark
setting_marks (Cycle n) = with_number (codes "cycle") (decimal n)
setting_marks (Start n) = with_number (codes "start") (decimal n)
setting_marks (Timeout n) = with_number (codes "timeout") (decimal n)
setting_marks Catch = opening ∷ word (codes "catch") ∷ closing ∷ []

-- what tokens spell

spell_named : (p : Place) (w : List ℕ) (ms : List Mark) → spell p (named w ∷ ms) ≡ due p ++ (w ++ spell ended ms)
unfolding spell
spell_named p w ms = go (is_number w)
  where
    go : (t : Bool) → spell p (cond t (number w) (word w) ∷ ms) ≡ due p ++ (w ++ spell ended ms)
    go true = refl
    go false = refl

pub spell_with_number : (k w : List ℕ) (ms : List Mark) → spell ended (with_number k w ++ ms) ≡ 32 ∷ 40 ∷ (k ++ (32 ∷ (w ++ (41 ∷ spell ended ms))))
unfolding spell
spell_with_number k w ms = refl

pub spell_with_name : (k w : List ℕ) (ms : List Mark) → spell ended (with_name k w ++ ms) ≡ 32 ∷ 40 ∷ (k ++ (32 ∷ (w ++ (41 ∷ spell ended ms))))
unfolding spell
spell_with_name k w ms = ap (λ (bs : List ℕ). 32 ∷ 40 ∷ (k ++ bs)) (spell_named ended w (closing ∷ ms))

pub spell_await : (ms : List Mark) → spell ended (act_marks await ++ ms) ≡ 32 ∷ (spelled_act await ++ spell ended ms)
unfolding spell
spell_await ms = refl

-- the closing bracket belongs to what comes before it
closed_before : (front w rest : List ℕ) → front ++ (w ++ (41 ∷ rest)) ≡ (front ++ (w ++ codes ")")) ++ rest
closed_before front w rest = simp append_assoc

spell_act : (a : Act) (ms : List Mark) → spell ended (act_marks a ++ ms) ≡ 32 ∷ (spelled_act a ++ spell ended ms)
spell_act (sleep n) ms = spell_with_number (codes "sleep") (decimal n) ms ∙ ap (32 ∷◌) (closed_before (codes "(sleep ") (decimal n) (spell ended ms))
spell_act (spawn w) ms = spell_with_name (codes "spawn") w ms ∙ ap (32 ∷◌) (closed_before (codes "(spawn ") w (spell ended ms))
spell_act (wake w) ms = spell_with_name (codes "wake") w ms ∙ ap (32 ∷◌) (closed_before (codes "(wake ") w (spell ended ms))
spell_act (abort w) ms = spell_with_name (codes "abort") w ms ∙ ap (32 ∷◌) (closed_before (codes "(abort ") w (spell ended ms))
spell_act (stop z) ms = spell_with_number (codes "stop") (signed_decimal z) ms ∙ ap (32 ∷◌) (closed_before (codes "(stop ") (signed_decimal z) (spell ended ms))
spell_act await ms = spell_await ms
spell_act (done z) ms = spell_with_number (codes "done") (signed_decimal z) ms ∙ ap (32 ∷◌) (closed_before (codes "(done ") (signed_decimal z) (spell ended ms))
spell_act (fault n) ms = spell_with_number (codes "fault") (decimal n) ms ∙ ap (32 ∷◌) (closed_before (codes "(fault ") (decimal n) (spell ended ms))

spell_acts : (acts : List Act) (ms : List Mark) → spell ended (step_marks acts ++ ms) ≡ spelled_acts acts ++ spell ended ms
unfolding spelled_acts
spell_acts [] ms = refl
spell_acts (a ∷ more) ms =
    ap (spell ended) (append_assoc (act_marks a) (step_marks more) ms)
    ∙ spell_act a (step_marks more ++ ms)
    ∙ ap (λ (bs : List ℕ). 32 ∷ (spelled_act a ++ bs)) (spell_acts more ms)
    ∙ ap (32 ∷◌) (sym (append_assoc (spelled_act a) (spelled_acts more) (spell ended ms)))

pub spell_titled : (w : List ℕ) (ms : List Mark) → spell begun (opening ∷ word (codes "task") ∷ named w ∷ ms) ≡ codes "(task " ++ (w ++ spell ended ms)
unfolding spell
spell_titled w ms = ap (codes "(task" ++◌) (spell_named ended w ms)

spell_task : (t : Task) → spell begun (task_marks t) ≡ codes "(task " ++ (t.name ++ (spelled_acts t.acts ++ codes ")"))
unfolding spell
spell_task t =
    spell_titled t.name (step_marks t.acts ++ closing ∷ []) ∙ ap (λ (bs : List ℕ). codes "(task " ++ (t.name ++ bs)) (spell_acts t.acts (closing ∷ []))

-- the lines of settings, and of tasks

abbrev heads_of : List Setting → List (List ℕ)
heads_of [] = []
heads_of (s ∷ ss) = spell begun (setting_marks s) ∷ heads_of ss

abbrev bodies_of : List Task → List (List ℕ)
bodies_of [] = []
bodies_of (t ∷ ts) = spell begun (task_marks t) ∷ bodies_of ts

task_line_ends : (t : Task) (rest : List ℕ) → spell begun (task_marks t) ++ (10 ∷ rest) ≡ spelled_task t ++ rest
task_line_ends t rest = rw (spell_task t) (simp append_assoc)

bytes_of_bodies : (ts : List Task) → bytes_of (bodies_of ts) ≡ spelled_tasks ts
unfolding bytes_of spelled_tasks
bytes_of_bodies [] = refl
bytes_of_bodies (t ∷ ts) = task_line_ends t (bytes_of (bodies_of ts)) ∙ ap (spelled_task t ++◌) (bytes_of_bodies ts)

-- a setting with a number ends its line
number_line_ends : (k w rest : List ℕ) → spell begun (with_number k w) ++ (10 ∷ rest) ≡ 40 ∷ (k ++ (32 ∷ (w ++ (ending ++ rest))))
unfolding spell
number_line_ends k w rest = simp append_assoc

-- the settings of a plan
abbrev timeout_settings : Option ℕ → List Setting
timeout_settings None = []
timeout_settings (Some n) = Timeout n ∷ []

abbrev catch_settings : Bool → List Setting
catch_settings true = Catch ∷ []
catch_settings false = []

abbrev settings_by : ℕ → ℕ → Option ℕ → Bool → List Setting
settings_by c s o b = Cycle c ∷ Start s ∷ (timeout_settings o ++ catch_settings b)

abbrev settings_of : Plan → List Setting
settings_of p = settings_by p.cycle p.start p.timeout p.catch

bytes_of_catch : (b : Bool) (ls : List (List ℕ)) → bytes_of (heads_of (catch_settings b) ++ ls) ≡ spelled_catch b ++ bytes_of ls
unfolding bytes_of spell
bytes_of_catch true ls = refl
bytes_of_catch false ls = refl

bytes_of_timeout : (o : Option ℕ) (b : Bool) (ls : List (List ℕ)) → bytes_of (heads_of (timeout_settings o ++ catch_settings b) ++ ls) ≡ spelled_timeout o ++ (spelled_catch b ++ bytes_of ls)
unfolding bytes_of
bytes_of_timeout None b ls = bytes_of_catch b ls
bytes_of_timeout (Some n) b ls =
    number_line_ends (codes "timeout") (decimal n) (bytes_of (heads_of (catch_settings b) ++ ls))
    ∙ ap (λ (bs : List ℕ). codes "(timeout " ++ (decimal n ++ (ending ++ bs))) (bytes_of_catch b ls)
    ∙ ap (codes "(timeout " ++◌) (sym (append_assoc (decimal n) ending (spelled_catch b ++ bytes_of ls)))

bytes_of_lines : (p : Plan) → spelled p ≡ bytes_of (heads_of (settings_of p) ++ bodies_of p.tasks)
unfolding bytes_of
bytes_of_lines p =
    let later = timeout_settings p.timeout ++ catch_settings p.catch in
    let more = bytes_of (heads_of later ++ bodies_of p.tasks) in
    sym (
    number_line_ends (codes "cycle") (decimal p.cycle) (spell begun (setting_marks (Start p.start)) ++ (10 ∷ more))
    ∙ ap (λ (bs : List ℕ). codes "(cycle " ++ (decimal p.cycle ++ (ending ++ bs)))
    (number_line_ends (codes "start") (decimal p.start) more
    ∙ ap (λ (bs : List ℕ). codes "(start " ++ (decimal p.start ++ (ending ++ bs)))
    (bytes_of_timeout p.timeout p.catch (bodies_of p.tasks)
    ∙ ap (λ (bs : List ℕ). spelled_timeout p.timeout ++ (spelled_catch p.catch ++ bs)) (bytes_of_bodies p.tasks))))

-- what tokens say

says_act : (a : Act) → SpellableAct a → SaysAct a (act_marks a)
says_act (sleep n) h = (decimal n, refl, writes_decimal n h 64 h)
says_act (spawn w) h = refl
says_act (wake w) h = refl
says_act (abort w) h = refl
says_act (stop z) h = (signed_decimal z, refl, writes_signed 32 z (signed_fits_32 z h) h)
says_act await h = refl
says_act (done z) h = (signed_decimal z, refl, writes_signed 64 z (signed_fits_64 z h) h)
says_act (fault n) h = (decimal n, refl, writes_decimal n (omega arith) 32 h)

says_acts : (acts : List Act) → SpellableActs acts → SaysActs acts (step_marks acts)
unfolding SpellableActs SaysActs
says_acts [] h = refl
says_acts (a ∷ more) h = (act_marks a, step_marks more, refl, says_act a h.0, says_acts more h.1)

sound_with_number : (k w : List ℕ) → Sound (word k) → Sound (number w) → AllSound (with_number k w)
sound_with_number k w hk hw = (tt, (hk, (hw, (tt, tt))))

sound_with_name : (k w : List ℕ) → Sound (word k) → IsName w → AllSound (with_name k w)
sound_with_name k w hk hw = (tt, (hk, (sound_named w hw, (tt, tt))))

sound_act : (a : Act) → SpellableAct a → AllSound (act_marks a)
unfolding no_break
sound_act (sleep n) h = sound_with_number (codes "sleep") (decimal n) ((refl, refl), refl) (sound_decimal n h)
sound_act (spawn w) h = sound_with_name (codes "spawn") w ((refl, refl), refl) h
sound_act (wake w) h = sound_with_name (codes "wake") w ((refl, refl), refl) h
sound_act (abort w) h = sound_with_name (codes "abort") w ((refl, refl), refl) h
sound_act (stop z) h = sound_with_number (codes "stop") (signed_decimal z) ((refl, refl), refl) (sound_signed z (signed_fits_32 z h))
sound_act await h = (tt, (((refl, refl), refl), (tt, tt)))
sound_act (done z) h = sound_with_number (codes "done") (signed_decimal z) ((refl, refl), refl) (sound_signed z (signed_fits_64 z h))
sound_act (fault n) h = sound_with_number (codes "fault") (decimal n) ((refl, refl), refl) (sound_decimal n (omega arith))

sound_acts : (acts : List Act) → SpellableActs acts → AllSound (step_marks acts)
unfolding SpellableActs
sound_acts [] h = tt
sound_acts (a ∷ more) h = all_sound_append (act_marks a) (step_marks more) (sound_act a h.0) (sound_acts more h.1)

sound_task : (t : Task) → SpellableTask t → AllSound (task_marks t)
unfolding no_break
sound_task t h = (tt, (((refl, refl), refl), (sound_named t.name h.0, all_sound_append (step_marks t.acts) (closing ∷ []) (sound_acts t.acts h.1) (tt, tt))))

-- the lines say the tasks and the settings

task_lines : (n : ℕ) (ts : List Task) → SpellableTasks ts → TaskLines n (placed_from n ts) (bodies_of ts)
unfolding SpellableTasks TaskLines placed_from
task_lines n [] h = tt
task_lines n (t ∷ ts) h =
    let t' : Task = record { name = t.name; acts = t.acts; line = n } in
    (refl, line_spelled (SaysTask t') (task_marks t) (sound_task t h.0) (step_marks t.acts, refl, says_acts t.acts h.0.1), task_lines (n + 1) ts h.1)

-- the time of a setting fits 64 bits
abbrev pub FitSetting : Setting → Type 0
FitSetting (Cycle n) = Fits 64 n
FitSetting (Start n) = Fits 64 n
FitSetting (Timeout n) = Fits 64 n
FitSetting Catch = Unit {0}

abbrev pub FitSettings : List Setting → Type 0
FitSettings [] = Unit {0}
FitSettings (s ∷ ss) = FitSetting s × FitSettings ss

says_setting : (s : Setting) → FitSetting s → SaysSetting s (setting_marks s)
says_setting (Cycle n) h = (decimal n, refl, writes_decimal n h 64 h)
says_setting (Start n) h = (decimal n, refl, writes_decimal n h 64 h)
says_setting (Timeout n) h = (decimal n, refl, writes_decimal n h 64 h)
says_setting Catch h = refl

sound_setting : (s : Setting) → FitSetting s → AllSound (setting_marks s)
unfolding no_break
sound_setting (Cycle n) h = sound_with_number (codes "cycle") (decimal n) ((refl, refl), refl) (sound_decimal n h)
sound_setting (Start n) h = sound_with_number (codes "start") (decimal n) ((refl, refl), refl) (sound_decimal n h)
sound_setting (Timeout n) h = sound_with_number (codes "timeout") (decimal n) ((refl, refl), refl) (sound_decimal n h)
sound_setting Catch h = (tt, (((refl, refl), refl), (tt, tt)))

setting_lines : (ss : List Setting) → FitSettings ss → SettingLines ss (heads_of ss)
unfolding SettingLines
setting_lines [] h = tt
setting_lines (s ∷ ss) h = (line_spelled (SaysSetting s) (setting_marks s) (sound_setting s h.0) (says_setting s h.0), setting_lines ss h.1)

-- the settings of a plan are those that it has, each once

fit_settings : (c s : ℕ) (o : Option ℕ) (b : Bool) → Fits 64 c → Fits 64 s → SpellableTimeout o → FitSettings (settings_by c s o b)
fit_settings c s None true hc hs ho = (hc, (hs, (tt, tt)))
fit_settings c s None false hc hs ho = (hc, (hs, tt))
fit_settings c s (Some n) true hc hs ho = (hc, (hs, (ho, (tt, tt))))
fit_settings c s (Some n) false hc hs ho = (hc, (hs, (ho, tt)))

once_settings : (c s : ℕ) (o : Option ℕ) (b : Bool) → OnceEach (settings_by c s o b)
unfolding OnceEach cycle_in start_in timeout_in catch_in
once_settings c s None true = (refl, (refl, (refl, tt)))
once_settings c s None false = (refl, (refl, tt))
once_settings c s (Some n) true = (refl, (refl, (refl, (refl, tt))))
once_settings c s (Some n) false = (refl, (refl, (refl, tt)))

timeout_in_settings : (c s : ℕ) (o : Option ℕ) (b : Bool) → o ≡ timeout_in (settings_by c s o b)
unfolding timeout_in
timeout_in_settings c s None true = refl
timeout_in_settings c s None false = refl
timeout_in_settings c s (Some n) b = refl

catch_in_settings : (c s : ℕ) (o : Option ℕ) (b : Bool) → b ≡ catch_in (settings_by c s o b)
unfolding catch_in
catch_in_settings c s None true = refl
catch_in_settings c s None false = refl
catch_in_settings c s (Some n) true = refl
catch_in_settings c s (Some n) false = refl

length_heads : (c s : ℕ) (o : Option ℕ) (b : Bool) → length (heads_of (settings_by c s o b)) + 1 ≡ 3 + (cond (is_some o) 1 0 + cond b 1 0)
length_heads c s None true = refl
length_heads c s None false = refl
length_heads c s (Some n) true = refl
length_heads c s (Some n) false = refl

pub spelled_reads : (p : Plan) → Spellable p → Reads (spelled p) (placed p)
unfolding cycle_in start_in
spelled_reads p h =
    record {
      settings = settings_of p;
      heads = heads_of (settings_of p);
      bodies = bodies_of p.tasks;
      bytes = bytes_of_lines p;
      says_settings = setting_lines (settings_of p) (fit_settings p.cycle p.start p.timeout p.catch h.fits_cycle h.fits_start h.fits_timeout);
      says_tasks =
          subst (λ (n : ℕ). TaskLines n (placed_from (first_line p) p.tasks) (bodies_of p.tasks)) (sym (length_heads p.cycle p.start p.timeout p.catch))
          (task_lines (first_line p) p.tasks h.spells_tasks);
      once = once_settings p.cycle p.start p.timeout p.catch;
      follows = (refl, refl, timeout_in_settings p.cycle p.start p.timeout p.catch, catch_in_settings p.cycle p.start p.timeout p.catch);
      names = names_stand_placed (first_line p) p.tasks h.names;
    }
