-- What a script's bytes mean, or why and where they are refused, by the first condition that holds. Assumes nothing.
use Rattle.std.specs.Prelude.{ℕ, ◌+◌, Bool, true, false, cond, not, ◌&&◌, ◌||◌, List, [], ◌∷◌, ◌++◌, length, is_some, Some, None, Ok, Err, codes, Option, Result, nat_le, nat_lt}
use Rattle.std.specs.Option.{unwrap_or}
use Rattle.std.specs.Str.{bytes_eq}
use Rattle.tokens.specs.Numbers.{is_empty}
use Rattle.faults.specs.declared.fault.Fault.{Fault}
use Rattle.faults.specs.declared.fault.Reason.TheVariants.{TooLong, NoForm, TooMany, Name}
use Rattle.forms.specs.declared.form.Setting.{Setting}
use Rattle.forms.specs.declared.form.Setting.TheVariants.{Cycle, Start, Timeout, Catch}
use Rattle.faults.specs.Faults.{at}
use Rattle.forms.specs.Forms.{form_of}
use Rattle.lines.specs.Lines.{Text, text_of}
use Rattle.forms.specs.Meaning.{Act, sleep, spawn, wake, abort, stop, await, done, fault, Task, Plan, Says, setting, task}

-- no script has more bytes, no script more tasks, and no task more steps
abbrev pub most_bytes : ℕ
most_bytes = 4096

abbrev pub most_tasks : ℕ
most_tasks = 16

abbrev pub most_steps : ℕ
most_steps = 32

-- what the lines so far say: each setting if it was given, and the tasks in order
pub record Draft : Type 0 where
  pub cycle : Option ℕ
  pub start : Option ℕ
  pub timeout : Option ℕ
  pub catch : Bool
  pub tasks : List Task

-- nothing is said yet
abbrev pub blank : Draft
blank = record { cycle = None; start = None; timeout = None; catch = false; tasks = [] }

-- no task was given so far
abbrev pub no_task : List Task → Bool
no_task [] = true
no_task (t ∷ ts) = false

-- the setting may be given now: it was not given before, and no task was
abbrev pub in_place : Setting → Draft → Bool
in_place (Cycle n) d = no_task d.tasks && not (is_some d.cycle)
in_place (Start n) d = no_task d.tasks && not (is_some d.start)
in_place (Timeout n) d = no_task d.tasks && not (is_some d.timeout)
in_place Catch d = no_task d.tasks && not d.catch

-- the draft with a setting
abbrev pub with_setting : Setting → Draft → Draft
with_setting (Cycle n) d = record { cycle = Some n; start = d.start; timeout = d.timeout; catch = d.catch; tasks = d.tasks }
with_setting (Start n) d = record { cycle = d.cycle; start = Some n; timeout = d.timeout; catch = d.catch; tasks = d.tasks }
with_setting (Timeout n) d = record { cycle = d.cycle; start = d.start; timeout = Some n; catch = d.catch; tasks = d.tasks }
with_setting Catch d = record { cycle = d.cycle; start = d.start; timeout = d.timeout; catch = true; tasks = d.tasks }

-- the draft with one task more
abbrev pub with_task : Task → Draft → Draft
with_task t d = record { cycle = d.cycle; start = d.start; timeout = d.timeout; catch = d.catch; tasks = d.tasks ++ t ∷ [] }

-- a task of so many steps may follow so many tasks
abbrev pub has_room : List Task → List Act → Bool
has_room ts acts = nat_lt (length ts) most_tasks && nat_le (length acts) most_steps

-- the draft after one line more, which is no form if it says nothing or stands out of its place
abbrev pub drafted : ℕ → Option Says → Draft → Result Draft Fault
drafted n None d = Err (at n NoForm)
drafted n (Some (setting s)) d = cond (in_place s d) (Ok (with_setting s d)) (Err (at n NoForm))
drafted n (Some (task w acts)) d = cond (has_room d.tasks acts) (Ok (with_task (record { name = w; acts = acts; line = n }) d)) (Err (at n TooMany))

-- what f makes of a value, or the refusal that stands in its place
abbrev pub and_then : {A B : Type 0} → Result A Fault → (A → Result B Fault) → Result B Fault
and_then (Ok x) f = f x
and_then (Err e) f = Err e

-- the draft after all lines, from the line n on; what is left after the last LF is no line, hence no form
unfoldable pub draft_of : ℕ → Draft → List (List ℕ) → List ℕ → Result Draft Fault
draft_of n d [] rest = cond (is_empty rest) (Ok d) (Err (at n NoForm))
draft_of n d (l ∷ ls) rest = and_then (drafted n (form_of l) d) (λ more. draft_of (n + 1) more ls rest)

-- the name is among the names
unfoldable pub is_among : List ℕ → List (List ℕ) → Bool
is_among w [] = false
is_among w (v ∷ vs) = bytes_eq w v || is_among w vs

-- the names that the tasks have, in order
unfoldable pub names_of : List Task → List (List ℕ)
names_of [] = []
names_of (t ∷ ts) = t.name ∷ names_of ts

-- the name that an act uses, if it uses one, is among the names
abbrev pub is_known : List (List ℕ) → Act → Bool
is_known ws (sleep n) = true
is_known ws (spawn w) = is_among w ws
is_known ws (wake w) = is_among w ws
is_known ws (abort w) = is_among w ws
is_known ws (stop z) = true
is_known ws await = true
is_known ws (done z) = true
is_known ws (fault n) = true

-- each name that the acts use is among the names
unfoldable pub all_known : List (List ℕ) → List Act → Bool
all_known ws [] = true
all_known ws (a ∷ more) = is_known ws a && all_known ws more

-- the task's name is new after those before it, and it uses only names that a task has
abbrev pub is_named : List (List ℕ) → List (List ℕ) → Task → Bool
is_named all earlier t = not (is_among t.name earlier) && all_known all t.acts

-- the line of the first task whose name is not new or that uses a name that no task has
unfoldable pub misnamed : List (List ℕ) → List (List ℕ) → List Task → Option ℕ
misnamed all earlier [] = None
misnamed all earlier (t ∷ ts) = cond (is_named all earlier t) (misnamed all (earlier ++ t.name ∷ []) ts) (Some t.line)

-- the plan of a draft: a cycle of a millisecond, a start at 0, no timeout and no catching, unless given
abbrev pub plan_of : Draft → Plan
plan_of d = record { cycle = unwrap_or d.cycle 1000000; start = unwrap_or d.start 0; timeout = d.timeout; catch = d.catch; tasks = d.tasks }

-- the refusal of a name at a line, or of a script that has no root
abbrev pub by_name : Option ℕ → Bool → Draft → Result Plan Fault
by_name (Some n) rooted d = Err (at n Name)
by_name None rooted d = cond rooted (Ok (plan_of d)) (Err (at 0 Name))

-- the plan of a draft whose names are in order
abbrev pub planned : Draft → Result Plan Fault
planned d = by_name (misnamed (names_of d.tasks) [] d.tasks) (is_among (codes "root") (names_of d.tasks)) d

-- the plan that the lines of a text say
abbrev pub told : Text → Result Plan Fault
told t = and_then (draft_of 1 blank t.lines t.rest) planned

-- the plan that the bytes of a script say, or the first refusal
abbrev pub reading : List ℕ → Result Plan Fault
reading bs = cond (nat_lt most_bytes (length bs)) (Err (at 0 TooLong)) (told (text_of bs))
