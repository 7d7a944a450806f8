-- The one spelling of a plan that programs write. Assumes nothing.
use Rattle.std.specs.Prelude.{ℕ, ◌+◌, Bool, cond, List, [], ◌∷◌, ◌++◌, is_some, Some, None, codes, decimal, Option}
use Rattle.std.specs.Fmt.{signed_decimal}
use Rattle.forms.specs.Meaning.{Act, sleep, spawn, wake, abort, stop, await, done, fault, Task, Plan}

-- the end of a form, and of its line
abbrev pub ending : List ℕ
ending = 41 ∷ 10 ∷ []

-- a step, in its brackets
abbrev pub spelled_act : Act → List ℕ
spelled_act (sleep n) = codes "(sleep " ++ (decimal n ++ codes ")")
spelled_act (spawn w) = codes "(spawn " ++ (w ++ codes ")")
spelled_act (wake w) = codes "(wake " ++ (w ++ codes ")")
spelled_act (abort w) = codes "(abort " ++ (w ++ codes ")")
spelled_act (stop z) = codes "(stop " ++ (signed_decimal z ++ codes ")")
spelled_act await = codes "(await)"
spelled_act (done z) = codes "(done " ++ (signed_decimal z ++ codes ")")
spelled_act (fault n) = codes "(fault " ++ (decimal n ++ codes ")")

-- steps, each after a space
unfoldable pub spelled_acts : List Act → List ℕ
spelled_acts [] = []
spelled_acts (a ∷ more) = 32 ∷ (spelled_act a ++ spelled_acts more)

-- the line of a task
abbrev pub spelled_task : Task → List ℕ
spelled_task t = codes "(task " ++ (t.name ++ (spelled_acts t.acts ++ ending))

-- the lines of tasks
unfoldable pub spelled_tasks : List Task → List ℕ
spelled_tasks [] = []
spelled_tasks (t ∷ ts) = spelled_task t ++ spelled_tasks ts

-- the line of a timeout, if there is one
abbrev pub spelled_timeout : Option ℕ → List ℕ
spelled_timeout None = []
spelled_timeout (Some n) = codes "(timeout " ++ (decimal n ++ ending)

-- the line that has faults caught, if they are
abbrev pub spelled_catch : Bool → List ℕ
spelled_catch b = cond b (codes "(catch" ++ ending) []

-- cycle and start always, timeout and catch if set, and then the tasks; numbers without leading zeros
abbrev pub spelled : Plan → List ℕ
spelled p =
    codes "(cycle " ++ (decimal p.cycle ++ (ending
    ++ (codes "(start " ++ (decimal p.start ++ (ending
    ++ (spelled_timeout p.timeout ++ (spelled_catch p.catch ++ spelled_tasks p.tasks)))))))

-- the tasks on the lines from n on
unfoldable pub placed_from : ℕ → List Task → List Task
placed_from n [] = []
placed_from n (t ∷ ts) = record { name = t.name; acts = t.acts; line = n } ∷ placed_from (n + 1) ts

-- the line of the first task in that spelling
abbrev pub first_line : Plan → ℕ
first_line p = 3 + (cond (is_some p.timeout) 1 0 + cond p.catch 1 0)

-- the plan with each task on the line that it has in that spelling
abbrev pub placed : Plan → Plan
placed p = record { cycle = p.cycle; start = p.start; timeout = p.timeout; catch = p.catch; tasks = placed_from (first_line p) p.tasks }
