-- What a script says can be spelled: its numbers fit what they fill, and its names are words without LF.
use Rattle.std.proofs.Common.{ℕ, ◌+◌, List, [], ◌∷◌, length, unwrap_or, subst, arith}
use Rattle.tokens.specs.Tokens.{Mark, closing}
use Rattle.forms.specs.declared.form.Setting.{Setting}
use Rattle.forms.specs.declared.form.Setting.TheVariants.{Cycle, Start, Timeout, Catch}
use Rattle.forms.specs.Meaning.{Act, sleep, spawn, wake, abort, stop, await, done, fault, Task, Plan}
use Rattle.grammar.specs.Reads.{SaysAct, SaysActs, SaysSetting, SaysTask, SettingLines, TaskLines, cycle_in, start_in, timeout_in, Reads}
use Rattle.grammar.specs.Spellable.{Fits, SpellableAct, SpellableActs, SpellableTimeout, SpellableTask, SpellableTasks, Spellable}
use Rattle.grammar.proofs.Unbroken.{AllSound, all_sound_parts, named_sound, all_sound_line}
use Rattle.grammar.proofs.Canonical.{FitSetting, FitSettings}

spellable_act : (a : Act) (ms : List Mark) → AllSound ms → SaysAct a ms → SpellableAct a
spellable_act (sleep n) ms s h = h.2.2
spellable_act (spawn w) ms s h = named_sound w (subst AllSound h s).1.1.0
spellable_act (wake w) ms s h = named_sound w (subst AllSound h s).1.1.0
spellable_act (abort w) ms s h = named_sound w (subst AllSound h s).1.1.0
spellable_act (stop z) ms s h = (h.2.2, h.2.3)
spellable_act await ms s h = tt
spellable_act (done z) ms s h = (h.2.2, h.2.3)
spellable_act (fault n) ms s h = h.2.2

spellable_acts : (acts : List Act) (ms : List Mark) → AllSound ms → SaysActs acts ms → SpellableActs acts
unfolding SaysActs SpellableActs
spellable_acts [] ms s h = tt
spellable_acts (a ∷ more) ms s h =
    let both = all_sound_parts h.0 h.1 (subst AllSound h.2 s) in
    (spellable_act a h.0 both.0 h.3, spellable_acts more h.1 both.1 h.4)

spellable_task : (t : Task) (ms : List Mark) → AllSound ms → SaysTask t ms → SpellableTask t
spellable_task t ms s h =
    let after = (subst AllSound h.1 s).1.1 in
    (named_sound t.name after.0, spellable_acts t.acts h.0 (all_sound_parts h.0 (closing ∷ []) after.1).0 h.2)

spellable_tasks : (n : ℕ) (ts : List Task) (ls : List (List ℕ)) → TaskLines n ts ls → SpellableTasks ts
unfolding TaskLines SpellableTasks
spellable_tasks n [] ls h = tt
spellable_tasks n (t ∷ ts) [] h = absurd h
spellable_tasks n (t ∷ ts) (l ∷ ls) h =
    (spellable_task t h.1.0 (all_sound_line (SaysTask t) l h.1) h.1.4, spellable_tasks (n + 1) ts ls h.2)

fit_setting : (s : Setting) (ms : List Mark) → SaysSetting s ms → FitSetting s
fit_setting (Cycle n) ms h = h.2.2
fit_setting (Start n) ms h = h.2.2
fit_setting (Timeout n) ms h = h.2.2
fit_setting Catch ms h = tt

fit_settings_said : (ss : List Setting) (ls : List (List ℕ)) → SettingLines ss ls → FitSettings ss
unfolding SettingLines
fit_settings_said [] ls h = tt
fit_settings_said (s ∷ ss) [] h = absurd h
fit_settings_said (s ∷ ss) (l ∷ ls) h = (fit_setting s h.0.0 h.0.4, fit_settings_said ss ls h.1)

fits_cycle_in : (ss : List Setting) → FitSettings ss → Fits 64 (unwrap_or (cycle_in ss) 1000000)
unfolding cycle_in
fits_cycle_in [] h = omega arith
fits_cycle_in (Cycle n ∷ ss) h = h.0
fits_cycle_in (Start n ∷ ss) h = fits_cycle_in ss h.1
fits_cycle_in (Timeout n ∷ ss) h = fits_cycle_in ss h.1
fits_cycle_in (Catch ∷ ss) h = fits_cycle_in ss h.1

fits_start_in : (ss : List Setting) → FitSettings ss → Fits 64 (unwrap_or (start_in ss) 0)
unfolding start_in
fits_start_in [] h = omega arith
fits_start_in (Cycle n ∷ ss) h = fits_start_in ss h.1
fits_start_in (Start n ∷ ss) h = h.0
fits_start_in (Timeout n ∷ ss) h = fits_start_in ss h.1
fits_start_in (Catch ∷ ss) h = fits_start_in ss h.1

fits_timeout_in : (ss : List Setting) → FitSettings ss → SpellableTimeout (timeout_in ss)
unfolding timeout_in
fits_timeout_in [] h = tt
fits_timeout_in (Cycle n ∷ ss) h = fits_timeout_in ss h.1
fits_timeout_in (Start n ∷ ss) h = fits_timeout_in ss h.1
fits_timeout_in (Timeout n ∷ ss) h = h.0
fits_timeout_in (Catch ∷ ss) h = fits_timeout_in ss h.1

pub reads_spellable : (bs : List ℕ) (p : Plan) → Reads bs p → Spellable p
reads_spellable bs p r =
    let fit = fit_settings_said r.settings r.heads r.says_settings in
    record {
      fits_cycle = rw r.follows.0 (fits_cycle_in r.settings fit);
      fits_start = rw r.follows.1 (fits_start_in r.settings fit);
      fits_timeout = rw r.follows.2 (fits_timeout_in r.settings fit);
      spells_tasks = spellable_tasks (length r.heads + 1) p.tasks r.bodies r.says_tasks;
      names = r.names;
    }
