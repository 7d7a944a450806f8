-- Bytes that grow at their end, one piece after another.
use Rattle.std.proofs.Common.{◌≡◌, Ok, Err, Result, is_ok, if◌then◌else◌, ℕ, ◌+◌, ◌<◌, ◌≤◌, List, [], ◌∷◌, ◌++◌, map, length, get_or, drop, sym, ap, ◌∙◌, append_assoc, append-nil}
use Rattle.std.proofs.lemmas.List.{drop_more, at_drop_all}
use Rattle.forms.specs.declared.form.Step.{Step}
use Rattle.forms.specs.declared.form.TaskForm.{TaskForm}
use Rattle.forms.specs.Views.{act_of, task_of}
use Rattle.script_print.specs.Grown.{Grown}
use Rattle.grammar.specs.Spelled.{spelled_act, spelled_acts, spelled_task, spelled_tasks}

-- what is printed in the end, where a piece of what is left is printed in a turn
pub printed_turn : (whole before after piece rest more : List ℕ) → before ++ rest ≡ whole → rest ≡ piece ++ more → after ≡ before ++ piece → after ++ more ≡ whole
printed_turn whole before after piece rest more so_far parts turn =
    ap (λ bs. bs ++ more) turn ∙ append_assoc before piece more ∙ ap (λ bs. before ++ bs) (sym parts) ∙ so_far

printed_end : (whole after rest : List ℕ) → after ++ rest ≡ whole → rest ≡ [] → after ≡ whole
printed_end whole after rest so_far none = sym (ap (λ bs. after ++ bs) none ∙ append-nil after) ∙ so_far

-- a space and a step
pub spaced : (before between after act : List ℕ) → between ≡ before ++ 32 ∷ [] → after ≡ between ++ act → after ≡ before ++ (32 ∷ act)
spaced before between after act space step = step ∙ ap (λ bs. bs ++ act) space ∙ append_assoc before (32 ∷ []) act

pub spelled_acts_turn : (ss : List Step) (i : ℕ) (d : Step) → i < length ss → spelled_acts (map act_of (drop i ss)) ≡ (32 ∷ spelled_act (act_of (get_or ss i d))) ++ spelled_acts (map act_of (drop (i + 1) ss))
unfolding spelled_acts
spelled_acts_turn ss i d below = ap (λ us. spelled_acts (map act_of us)) (drop_more ss i d below)

pub acts_printed : (whole after : List ℕ) (ss : List Step) (i : ℕ) → length ss ≤ i → after ++ spelled_acts (map act_of (drop i ss)) ≡ whole → after ≡ whole
unfolding spelled_acts
acts_printed whole after ss i past so_far = printed_end whole after _ so_far (at_drop_all (λ us. spelled_acts (map act_of us)) ss i past)

pub spelled_tasks_turn : (ts : List TaskForm) (i : ℕ) (t : TaskForm) → i < length ts → t ≡ get_or ts i t → spelled_tasks (map task_of (drop i ts)) ≡ spelled_task (task_of t) ++ spelled_tasks (map task_of (drop (i + 1) ts))
unfolding spelled_tasks
spelled_tasks_turn ts i t below is =
    ap (λ us. spelled_tasks (map task_of us)) (drop_more ts i t below) ∙ ap (λ u. spelled_task (task_of u) ++ spelled_tasks (map task_of (drop (i + 1) ts))) (sym is)

pub tasks_printed : (whole after : List ℕ) (ts : List TaskForm) (i : ℕ) → length ts ≤ i → after ++ spelled_tasks (map task_of (drop i ts)) ≡ whole → after ≡ whole
unfolding spelled_tasks
tasks_printed whole after ts i past so_far = printed_end whole after _ so_far (at_drop_all (λ us. spelled_tasks (map task_of us)) ts i past)

-- the last piece is put, where what was put before and that piece are what is to be added
pub grown_last : {A E : Type 0} (r : Result A E) (start before after piece more : List ℕ) → before ++ piece ≡ start ++ more → after ≡ (if is_ok r then before ++ piece else before) → Grown r start after more
grown_last (Ok x) start before after piece more parts is = is ∙ parts
grown_last (Err e) start before after piece more parts is = tt
