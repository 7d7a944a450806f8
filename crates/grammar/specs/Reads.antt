-- Which bytes say which plan, by the rules of the format alone: nothing here says how a reader goes about it. Assumes nothing.
use Rattle.std.specs.Prelude.{◌≡◌, ℕ, ◌+◌, ◌-◌, ◌^◌, ◌<◌, ◌≤◌, Bool, true, false, cond, List, [], ◌∷◌, ◌++◌, length, ℤ, pos, neg_ℤ, ◌≤ℤ◌, ◌<ℤ◌, Some, None, Ok, Err, codes, Option, ◌==◌, nat_lt}
use Rattle.std.specs.Option.{unwrap_or}
use Rattle.tokens.specs.Numbers.{is_numeral, value, is_number, has_minus, after_minus, with_sign}
use Rattle.tokens.specs.Tokens.{Mark, opening, closing, word, number, named, begun, spell, all_tokens}
use Rattle.forms.specs.declared.form.Setting.{Setting}
use Rattle.forms.specs.declared.form.Setting.TheVariants.{Cycle, Start, Timeout, Catch}
use Rattle.faults.specs.declared.fault.Reason.TheVariants.{TooLong}
use Rattle.faults.specs.Faults.{at}
use Rattle.lines.specs.Lines.{bytes_of}
use Rattle.forms.specs.Meaning.{Act, sleep, spawn, wake, abort, stop, await, done, fault, Task, Plan}
use Rattle.grammar.specs.Reading.{is_among, names_of, all_known, most_bytes, most_tasks, most_steps, reading}
use Rattle.grammar.specs.Spelled.{spelled, placed}

-- the word writes the number n in digits, and n fits so many bits
abbrev pub Writes : ℕ → ℕ → List ℕ → Type 0
Writes bits n w = (is_numeral w ≡ true) × (value w ≡ n) × (n < 2 ^ bits)

-- the word writes the number z in digits, with or without a minus sign, and z fits so many bits
abbrev pub WritesSigned : ℕ → ℤ → List ℕ → Type 0
WritesSigned bits z w =
    (is_number w ≡ true) × (with_sign (has_minus w) (value (after_minus w)) ≡ z) × (neg_ℤ (pos (2 ^ (bits - 1))) ≤ℤ z) × (z <ℤ pos (2 ^ (bits - 1)))

-- a keyword and a name in brackets
abbrev pub with_name : List ℕ → List ℕ → List Mark
with_name k w = opening ∷ word k ∷ named w ∷ closing ∷ []

-- a keyword and a number in brackets
abbrev pub with_number : List ℕ → List ℕ → List Mark
with_number k w = opening ∷ word k ∷ number w ∷ closing ∷ []

-- the tokens say the act
abbrev pub SaysAct : Act → List Mark → Type 0
SaysAct (sleep n) ms = (w : List ℕ) × (ms ≡ with_number (codes "sleep") w) × Writes 64 n w
SaysAct (spawn w) ms = ms ≡ with_name (codes "spawn") w
SaysAct (wake w) ms = ms ≡ with_name (codes "wake") w
SaysAct (abort w) ms = ms ≡ with_name (codes "abort") w
SaysAct (stop z) ms = (w : List ℕ) × (ms ≡ with_number (codes "stop") w) × WritesSigned 32 z w
SaysAct await ms = ms ≡ opening ∷ word (codes "await") ∷ closing ∷ []
SaysAct (done z) ms = (w : List ℕ) × (ms ≡ with_number (codes "done") w) × WritesSigned 64 z w
SaysAct (fault n) ms = (w : List ℕ) × (ms ≡ with_number (codes "fault") w) × Writes 32 n w

-- the tokens say the acts, one after another
unfoldable pub SaysActs : List Act → List Mark → Type 0
SaysActs [] ms = ms ≡ []
SaysActs (a ∷ more) ms = (front : List Mark) × (back : List Mark) × (ms ≡ front ++ back) × SaysAct a front × SaysActs more back

-- the tokens say the setting
abbrev pub SaysSetting : Setting → List Mark → Type 0
SaysSetting (Cycle n) ms = (w : List ℕ) × (ms ≡ with_number (codes "cycle") w) × Writes 64 n w
SaysSetting (Start n) ms = (w : List ℕ) × (ms ≡ with_number (codes "start") w) × Writes 64 n w
SaysSetting (Timeout n) ms = (w : List ℕ) × (ms ≡ with_number (codes "timeout") w) × Writes 64 n w
SaysSetting Catch ms = ms ≡ opening ∷ word (codes "catch") ∷ closing ∷ []

-- the tokens say the task
abbrev pub SaysTask : Task → List Mark → Type 0
SaysTask t ms = (steps : List Mark) × (ms ≡ opening ∷ word (codes "task") ∷ named t.name ∷ (steps ++ closing ∷ [])) × SaysActs t.acts steps

-- the line has no LF
unfoldable pub no_break : List ℕ → Bool
no_break [] = true
no_break (b ∷ bs) = cond (b == 10) false (no_break bs)

-- tokens of which P holds spell the line
abbrev pub Line : (List Mark → Type 0) → List ℕ → Type 0
Line P l = (ms : List Mark) × (all_tokens ms ≡ true) × (spell begun ms ≡ l) × (no_break l ≡ true) × P ms

-- the lines say the settings, one by one
unfoldable pub SettingLines : List Setting → List (List ℕ) → Type 0
SettingLines [] [] = Unit {0}
SettingLines [] (l ∷ ls) = ⊥
SettingLines (s ∷ ss) [] = ⊥
SettingLines (s ∷ ss) (l ∷ ls) = Line (SaysSetting s) l × SettingLines ss ls

-- the lines, from the line n on, say the tasks, one by one
unfoldable pub TaskLines : ℕ → List Task → List (List ℕ) → Type 0
TaskLines n [] [] = Unit {0}
TaskLines n [] (l ∷ ls) = ⊥
TaskLines n (t ∷ ts) [] = ⊥
TaskLines n (t ∷ ts) (l ∷ ls) = (t.line ≡ n) × Line (SaysTask t) l × TaskLines (n + 1) ts ls

-- the cycle that the settings give, if they give one
unfoldable pub cycle_in : List Setting → Option ℕ
cycle_in [] = None
cycle_in (Cycle n ∷ ss) = Some n
cycle_in (Start n ∷ ss) = cycle_in ss
cycle_in (Timeout n ∷ ss) = cycle_in ss
cycle_in (Catch ∷ ss) = cycle_in ss

-- the start that the settings give, if they give one
unfoldable pub start_in : List Setting → Option ℕ
start_in [] = None
start_in (Cycle n ∷ ss) = start_in ss
start_in (Start n ∷ ss) = Some n
start_in (Timeout n ∷ ss) = start_in ss
start_in (Catch ∷ ss) = start_in ss

-- the timeout that the settings give, if they give one
unfoldable pub timeout_in : List Setting → Option ℕ
timeout_in [] = None
timeout_in (Cycle n ∷ ss) = timeout_in ss
timeout_in (Start n ∷ ss) = timeout_in ss
timeout_in (Timeout n ∷ ss) = Some n
timeout_in (Catch ∷ ss) = timeout_in ss

-- the settings have faults caught
unfoldable pub catch_in : List Setting → Bool
catch_in [] = false
catch_in (Cycle n ∷ ss) = catch_in ss
catch_in (Start n ∷ ss) = catch_in ss
catch_in (Timeout n ∷ ss) = catch_in ss
catch_in (Catch ∷ ss) = true

-- the settings give no second value for what a setting gives
abbrev pub New : Setting → List Setting → Type 0
New (Cycle n) ss = cycle_in ss ≡ None
New (Start n) ss = start_in ss ≡ None
New (Timeout n) ss = timeout_in ss ≡ None
New Catch ss = catch_in ss ≡ false

-- each setting is given at most once
unfoldable pub OnceEach : List Setting → Type 0
OnceEach [] = Unit {0}
OnceEach (s ∷ ss) = New s ss × OnceEach ss

-- no name stands twice
unfoldable pub Distinct : List (List ℕ) → Type 0
Distinct [] = Unit {0}
Distinct (w ∷ ws) = (is_among w ws ≡ false) × Distinct ws

-- each task uses only names that are among the names
unfoldable pub AllKnown : List (List ℕ) → List Task → Type 0
AllKnown ws [] = Unit {0}
AllKnown ws (t ∷ ts) = (all_known ws t.acts ≡ true) × AllKnown ws ts

-- the names of the tasks are in order: distinct, each one that is used is a task's, and one is root
abbrev pub NamesStand : List Task → Type 0
NamesStand ts = Distinct (names_of ts) × AllKnown (names_of ts) ts × (is_among (codes "root") (names_of ts) ≡ true)

-- the plan has what the settings give, and else a cycle of a millisecond, a start at 0, no timeout and no catching
abbrev pub Follows : Plan → List Setting → Type 0
Follows p ss =
    (p.cycle ≡ unwrap_or (cycle_in ss) 1000000) × (p.start ≡ unwrap_or (start_in ss) 0) × (p.timeout ≡ timeout_in ss) × (p.catch ≡ catch_in ss)

-- the bytes are lines, first those of settings, each at most once, and then those of the plan's tasks; its names are in order
pub record Reads (bs : List ℕ) (p : Plan) : Type 0 where
  pub settings : List Setting
  pub heads : List (List ℕ)
  pub bodies : List (List ℕ)
  pub bytes : bs ≡ bytes_of (heads ++ bodies)
  pub says_settings : SettingLines settings heads
  pub says_tasks : TaskLines (length heads + 1) p.tasks bodies
  pub once : OnceEach settings
  pub follows : Follows p settings
  pub names : NamesStand p.tasks

-- no task has more steps than a task may have
unfoldable pub FewSteps : List Task → Type 0
FewSteps [] = Unit {0}
FewSteps (t ∷ ts) = (length t.acts ≤ most_steps) × FewSteps ts

-- the bytes, the tasks and the steps are within the limits
abbrev pub Within : List ℕ → Plan → Type 0
Within bs p = (length bs ≤ most_bytes) × (length p.tasks ≤ most_tasks) × FewSteps p.tasks

-- the bytes are accepted exactly if they say a plan within the limits, and then as that plan
abbrev pub Exact : List ℕ → Type 0
Exact bs =
    ((p : Plan) → reading bs ≡ Ok p → Reads bs p × Within bs p)
    × ((p : Plan) → Reads bs p → Within bs p → reading bs ≡ Ok p)

-- the bytes say at most one plan, be it within the limits or not
abbrev pub OneReading : List ℕ → Type 0
OneReading bs = (p q : Plan) → Reads bs p → Reads bs q → p ≡ q

-- what the bytes say, spelled anew, says the same, with each task on its new line; only a spelling that is too long is refused, for that
abbrev pub Respelled : List ℕ → Type 0
Respelled bs = (p : Plan) → reading bs ≡ Ok p → reading (spelled p) ≡ cond (nat_lt most_bytes (length (spelled p))) (Err (at 0 TooLong)) (Ok (placed p))

-- what is read from a spelling is spelled as it was
abbrev pub Settled : List ℕ → Type 0
Settled bs = (p q : Plan) → reading bs ≡ Ok p → reading (spelled p) ≡ Ok q → spelled q ≡ spelled p

-- what the bytes say is spelled in at most 26 bytes more: the lines of a cycle and of a start that were left out
abbrev pub Grows : List ℕ → Type 0
Grows bs = (p : Plan) → reading bs ≡ Ok p → length (spelled p) ≤ length bs + 26
