-- Bytes are read as a plan exactly if they say it and it is within the limits. Assumes nothing.
use Rattle.std.proofs.Common.{◌≡◌, ℕ, ◌+◌, ◌≤◌, Bool, true, false, cond, ◌||◌, ltb, List, [], ◌++◌, length, Some, None, Ok, Err, codes, Option, Result, unwrap_or, sym, refl, ap, ◌∙◌, subst, ap₂, arith}
use Rattle.std.specs.Option.{option_or}
use Rattle.std.proofs.lemmas.Bool.{ltb-false, le-ltb, cond-false}
use Rattle.faults.specs.declared.fault.Fault.{Fault}
use Rattle.faults.specs.declared.fault.Reason.TheVariants.{TooLong, Name}
use Rattle.forms.specs.declared.form.Setting.{Setting}
use Rattle.faults.specs.Faults.{at}
use Rattle.lines.specs.Lines.{text_of, bytes_of}
use Rattle.forms.specs.Meaning.{Task, Plan}
use Rattle.grammar.specs.Reading.{most_bytes, most_tasks, Draft, blank, draft_of, names_of, is_among, misnamed, plan_of, by_name, planned, told, reading, and_then}
use Rattle.grammar.specs.Reads.{cycle_in, start_in, timeout_in, catch_in, Follows, NamesStand, Reads, Within, Exact}
use Rattle.grammar.proofs.Breaks.{no_breaks_append, bytes_of_text_of, text_of_bytes_of, text_of_unbroken}
use Rattle.grammar.proofs.Cases.{err≢ok, cond_ok, and_then_ok}
use Rattle.grammar.proofs.Drafts.{with_tasks, with_settings, Settled, settled, draft_of_tasks, draft_of_settings, settings_unbroken, tasks_unbroken}
use Rattle.grammar.proofs.Naming.{misnamed_none, none_misnamed}

-- the draft that has these settings and tasks
abbrev pub drawn : List Setting → List Task → Draft
drawn ss ts = with_tasks ts (with_settings ss blank)

or_other_none : (o : Option ℕ) → option_or o None ≡ o
or_other_none None = refl
or_other_none (Some n) = refl

or_false : (b : Bool) → (b || false) ≡ b
or_false true = refl
or_false false = refl

follows_drawn : (ss : List Setting) (ts : List Task) → Follows (plan_of (drawn ss ts)) ss
follows_drawn ss ts =
    (ap (λ o. unwrap_or o 1000000) (or_other_none (cycle_in ss)), ap (λ o. unwrap_or o 0) (or_other_none (start_in ss)), or_other_none (timeout_in ss), or_false (catch_in ss))

-- a plan that follows the settings is that of their draft
pub plan_of_drawn : (p : Plan) (ss : List Setting) → Follows p ss → plan_of (drawn ss p.tasks) ≡ p
plan_of_drawn p ss h =
    let is = follows_drawn ss p.tasks in
    λ i. record { cycle = (is.0 ∙ sym h.0) i; start = (is.1 ∙ sym h.1) i; timeout = (is.2 ∙ sym h.2) i; catch = (is.3 ∙ sym h.3) i; tasks = p.tasks }

by_name_ok : (o : Option ℕ) (rooted : Bool) (d : Draft) (p : Plan) → by_name o rooted d ≡ Ok p → (o ≡ None) × (rooted ≡ true) × (plan_of d ≡ p)
by_name_ok (Some n) rooted d p h = absurd (err≢ok h)
by_name_ok None rooted d p h = let is = cond_ok rooted (plan_of d) p (at 0 Name) h in (refl, is.0, is.1)

-- a draft that has a plan has its names in order
planned_ok : (d : Draft) (p : Plan) → planned d ≡ Ok p → NamesStand d.tasks × (plan_of d ≡ p)
planned_ok d p h =
    let is = by_name_ok (misnamed (names_of d.tasks) [] d.tasks) (is_among (codes "root") (names_of d.tasks)) d p h in
    let names = misnamed_none (names_of d.tasks) d.tasks is.0 in
    ((names.0, names.1, is.1), is.2)

ok_planned : (d : Draft) → NamesStand d.tasks → planned d ≡ Ok (plan_of d)
ok_planned d h = ap₂ (λ o rooted. by_name o rooted d) (none_misnamed (names_of d.tasks) d.tasks h.0 h.1) h.2

short_enough : (t : Bool) (r : Result Plan Fault) (p : Plan) → cond t (Err (at 0 TooLong)) r ≡ Ok p → (t ≡ false) × (r ≡ Ok p)
short_enough true r p h = absurd (err≢ok h)
short_enough false r p h = (refl, h)

-- bytes whose lines are drafted, with names in order, say the plan
reads_drafted : (bs : List ℕ) (d : Draft) → length bs ≤ most_bytes → Settled 1 blank (text_of bs).lines (text_of bs).rest d → NamesStand d.tasks → Reads bs (plan_of d) × Within bs (plan_of d)
reads_drafted bs d short s names =
    let t = s.then in
    subst (λ x. Reads bs (plan_of x) × Within bs (plan_of x)) (sym t.is) (
      record {
        settings = s.settings;
        heads = s.heads;
        bodies = s.bodies;
        bytes = bytes_of_text_of bs t.over ∙ ap bytes_of s.split;
        says_settings = s.says;
        says_tasks = t.says;
        once = s.once;
        follows = follows_drawn s.settings t.tasks;
        names = subst (λ x. NamesStand x.tasks) t.is names;
      },
      (short, omega (arith, t.room), t.few),
    )

reading_reads : (bs : List ℕ) (p : Plan) → reading bs ≡ Ok p → Reads bs p × Within bs p
reading_reads bs p h =
    let short = short_enough (ltb most_bytes (length bs)) (told (text_of bs)) p h in
    let step = and_then_ok (draft_of 1 blank (text_of bs).lines (text_of bs).rest) planned p short.1 in
    let plan = planned_ok step.0 p step.2 in
    let s = settled (text_of bs).lines 1 (text_of bs).rest blank step.0 (text_of_unbroken bs) refl step.1 in
    subst (λ x. Reads bs x × Within bs x) plan.1 (reads_drafted bs step.0 (ltb-false most_bytes (length bs) short.0) s plan.0)

-- the lines of a script that says a plan
pub text_of_reads : (bs : List ℕ) (p : Plan) (r : Reads bs p) → text_of bs ≡ record { lines = r.heads ++ r.bodies; rest = [] }
text_of_reads bs p r =
    ap text_of r.bytes
    ∙ text_of_bytes_of (r.heads ++ r.bodies)
    (no_breaks_append r.heads r.bodies (settings_unbroken r.heads r.settings r.says_settings) (tasks_unbroken r.bodies (length r.heads + 1) p.tasks r.says_tasks))

draft_of_reads : (bs : List ℕ) (p : Plan) (r : Reads bs p) → Within bs p → draft_of 1 blank (r.heads ++ r.bodies) [] ≡ Ok (drawn r.settings p.tasks)
draft_of_reads bs p r within =
    let few : 0 + length p.tasks ≤ most_tasks = omega (arith, within.1) in
    draft_of_settings r.heads r.settings r.bodies 1 blank refl r.says_settings r.once (tt, tt, tt, tt)
    ∙ draft_of_tasks r.bodies p.tasks (length r.heads + 1) (with_settings r.settings blank) r.says_tasks within.2 few

reads_reading : (bs : List ℕ) (p : Plan) → Reads bs p → Within bs p → reading bs ≡ Ok p
reads_reading bs p r within =
    cond-false (ltb most_bytes (length bs)) (Err (at 0 TooLong)) (told (text_of bs)) (le-ltb most_bytes (length bs) within.0)
    ∙ (ap told (text_of_reads bs p r)
    ∙ (ap (λ x. and_then x planned) (draft_of_reads bs p r within)
    ∙ (ok_planned (drawn r.settings p.tasks) r.names
    ∙ ap (λ x. Ok x) (plan_of_drawn p r.settings r.follows))))

pub exact : (bs : List ℕ) → Exact bs
exact bs = (reading_reads bs, reads_reading bs)
