-- Bytes say at most one plan: settings, tasks and their lines are found by looking at each line. Assumes nothing.
use Rattle.std.proofs.Common.{◌≡◌, ℕ, suc, ◌+◌, List, [], ◌∷◌, ◌++◌, length, Some, None, Option, sym, refl, ap, ◌∙◌, ap₂, append-nil, arith}
use Rattle.forms.specs.declared.form.Setting.{Setting}
use Rattle.forms.specs.Forms.{form_of}
use Rattle.lines.specs.Lines.{Text, text_of}
use Rattle.forms.specs.Meaning.{Task, Plan, Says, setting, task}
use Rattle.grammar.specs.Reading.{plan_of}
use Rattle.grammar.specs.Reads.{SettingLines, TaskLines, Reads, OneReading}
use Rattle.grammar.proofs.Exact.{drawn, plan_of_drawn, text_of_reads}
use Rattle.grammar.proofs.Sayings.{form_of_said}

-- settings with that of one line more, if it says one
abbrev setting_before : Option Says → List Setting → List Setting
setting_before None ss = ss
setting_before (Some (setting s)) ss = s ∷ ss
setting_before (Some (task w acts)) ss = ss

-- tasks with that of the line n, if it says one
abbrev task_before : ℕ → Option Says → List Task → List Task
task_before n None ts = ts
task_before n (Some (setting s)) ts = ts
task_before n (Some (task w acts)) ts = record { name = w; acts = acts; line = n } ∷ ts

-- the settings that some lines say
settings_of : List (List ℕ) → List Setting
settings_of [] = []
settings_of (l ∷ ls) = setting_before (form_of l) (settings_of ls)

-- the tasks that the lines from n on say
tasks_of : ℕ → List (List ℕ) → List Task
tasks_of n [] = []
tasks_of n (l ∷ ls) = task_before n (form_of l) (tasks_of (n + 1) ls)

settings_of_heads : (heads : List (List ℕ)) (ss : List Setting) (bodies : List (List ℕ)) → SettingLines ss heads → settings_of (heads ++ bodies) ≡ ss ++ settings_of bodies
unfolding settings_of SettingLines
settings_of_heads [] [] bodies h = refl
settings_of_heads [] (s ∷ ss) bodies h = absurd h
settings_of_heads (l ∷ heads) [] bodies h = absurd h
settings_of_heads (l ∷ heads) (s ∷ ss) bodies h = ap₂ setting_before (form_of_said l (setting s) h.0) (settings_of_heads heads ss bodies h.1)

settings_of_bodies : (bodies : List (List ℕ)) (n : ℕ) (ts : List Task) → TaskLines n ts bodies → settings_of bodies ≡ []
unfolding settings_of TaskLines
settings_of_bodies [] n [] h = refl
settings_of_bodies [] n (t ∷ ts) h = absurd h
settings_of_bodies (l ∷ bodies) n [] h = absurd h
settings_of_bodies (l ∷ bodies) n (t ∷ ts) h = ap₂ setting_before (form_of_said l (task t.name t.acts) h.1) (settings_of_bodies bodies (n + 1) ts h.2)

tasks_of_heads : (heads : List (List ℕ)) (ss : List Setting) (bodies : List (List ℕ)) (n : ℕ) → SettingLines ss heads → tasks_of n (heads ++ bodies) ≡ tasks_of (length heads + n) bodies
unfolding tasks_of SettingLines
tasks_of_heads [] [] bodies n h = let same : n ≡ 0 + n = omega arith in ap (λ k. tasks_of k bodies) same
tasks_of_heads [] (s ∷ ss) bodies n h = absurd h
tasks_of_heads (l ∷ heads) [] bodies n h = absurd h
tasks_of_heads (l ∷ heads) (s ∷ ss) bodies n h =
    let counted : length heads + (n + 1) ≡ suc (length heads) + n = omega arith in
    ap₂ (task_before n) (form_of_said l (setting s) h.0) (tasks_of_heads heads ss bodies (n + 1) h.1) ∙ ap (λ k. tasks_of k bodies) counted

tasks_of_bodies : (bodies : List (List ℕ)) (n : ℕ) (ts : List Task) → TaskLines n ts bodies → tasks_of n bodies ≡ ts
unfolding tasks_of TaskLines
tasks_of_bodies [] n [] h = refl
tasks_of_bodies [] n (t ∷ ts) h = absurd h
tasks_of_bodies (l ∷ bodies) n [] h = absurd h
tasks_of_bodies (l ∷ bodies) n (t ∷ ts) h =
    ap₂ (task_before n) (form_of_said l (task t.name t.acts) h.1) (tasks_of_bodies bodies (n + 1) ts h.2)
    ∙ ap (λ k. record { name = t.name; acts = t.acts; line = k } ∷ ts) (sym h.0)

settings_of_reads : (bs : List ℕ) (p : Plan) (r : Reads bs p) → settings_of (r.heads ++ r.bodies) ≡ r.settings
settings_of_reads bs p r =
    settings_of_heads r.heads r.settings r.bodies r.says_settings
    ∙ (ap (λ x. r.settings ++ x) (settings_of_bodies r.bodies (length r.heads + 1) p.tasks r.says_tasks) ∙ append-nil r.settings)

tasks_of_reads : (bs : List ℕ) (p : Plan) (r : Reads bs p) → tasks_of 1 (r.heads ++ r.bodies) ≡ p.tasks
tasks_of_reads bs p r =
    tasks_of_heads r.heads r.settings r.bodies 1 r.says_settings ∙ tasks_of_bodies r.bodies (length r.heads + 1) p.tasks r.says_tasks

-- a plan that the bytes say is the one that their lines show
plan_shown : (bs : List ℕ) (p : Plan) → Reads bs p → plan_of (drawn (settings_of (text_of bs).lines) (tasks_of 1 (text_of bs).lines)) ≡ p
plan_shown bs p r =
    ap (λ (t : Text). plan_of (drawn (settings_of t.lines) (tasks_of 1 t.lines))) (text_of_reads bs p r)
    ∙ (ap₂ (λ ss ts. plan_of (drawn ss ts)) (settings_of_reads bs p r) (tasks_of_reads bs p r)
    ∙ plan_of_drawn p r.settings r.follows)

pub one_reading : (bs : List ℕ) → OneReading bs
one_reading bs p q r s = sym (plan_shown bs p r) ∙ plan_shown bs q s
