-- How the names of tasks are looked through, one task or one step after another.
use Rattle.std.proofs.Common.{◌≡◌, ℕ, ◌+◌, ◌<◌, Bool, cond, ◌&&◌, ◌||◌, List, [], ◌∷◌, ◌++◌, map, length, get_or, take, drop, Some, None, sym, refl, ap, ◌∙◌}
use Rattle.std.specs.List.{list_any, list_all}
use Rattle.std.specs.Str.{bytes_eq}
use Rattle.std.proofs.lemmas.List.{drop_more, take_more, map_push}
use Rattle.forms.specs.declared.form.Step.{Step}
use Rattle.forms.specs.declared.form.TaskForm.{TaskForm}
use Rattle.forms.specs.Meaning.{Task}
use Rattle.forms.specs.Views.{act_of, task_of}
use Rattle.grammar.specs.Reading.{is_among, names_of, is_known, all_known, is_named, misnamed}
use Rattle.names.specs.Names.{names_in}

-- what is left of a list from an item on
drop_item : {X : Type 0} (xs : List X) (i : ℕ) (x : X) → i < length xs → x ≡ get_or xs i x → drop i xs ≡ x ∷ drop (i + 1) xs
drop_item xs i x below is = drop_more xs i x below ∙ ap (λ y. y ∷ drop (i + 1) xs) (sym is)

-- what is passed of a list with an item
take_item : {X : Type 0} (xs : List X) (i : ℕ) (x : X) → i < length xs → x ≡ get_or xs i x → take (i + 1) xs ≡ take i xs ++ x ∷ []
take_item xs i x below is = take_more xs i x below ∙ ap (λ y. take i xs ++ y ∷ []) (sym is)

-- a name is among those of the tasks if one of them has it
pub is_among_any : (w : List ℕ) (ts : List TaskForm) → is_among w (names_in ts) ≡ list_any (λ t. bytes_eq w t.name.now) ts
unfolding is_among names_of
is_among_any w [] = refl
is_among_any w (t ∷ ts) = ap (λ b. bytes_eq w t.name.now || b) (is_among_any w ts)

-- the names that acts use are known if each act's is
pub all_known_all : (ws : List (List ℕ)) (ss : List Step) → all_known ws (map act_of ss) ≡ list_all (λ s. is_known ws (act_of s)) ss
unfolding all_known
all_known_all ws [] = refl
all_known_all ws (s ∷ ss) = ap (λ b. is_known ws (act_of s) && b) (all_known_all ws ss)

names_of_push : (ts : List Task) (t : Task) → names_of (ts ++ t ∷ []) ≡ names_of ts ++ t.name ∷ []
unfolding names_of
names_of_push [] t = refl
names_of_push (u ∷ ts) t = ap (λ ws. u.name ∷ ws) (names_of_push ts t)

names_in_push : (ts : List TaskForm) (t : TaskForm) → names_in (ts ++ t ∷ []) ≡ names_in ts ++ t.name.now ∷ []
names_in_push ts t = ap names_of (map_push task_of ts t) ∙ names_of_push (map task_of ts) (task_of t)

names_in_take : (ts : List TaskForm) (i : ℕ) (t : TaskForm) → i < length ts → t ≡ get_or ts i t → names_in (take (i + 1) ts) ≡ names_in (take i ts) ++ t.name.now ∷ []
names_in_take ts i t below is = ap names_in (take_item ts i t below is) ∙ names_in_push (take i ts) t

pub misnamed_turn : (all : List (List ℕ)) (ts : List TaskForm) (i : ℕ) (t : TaskForm) (good : Bool) → i < length ts → t ≡ get_or ts i t → good ≡ is_named all (names_in (take i ts)) (task_of t)
    → misnamed all (names_in (take i ts)) (map task_of (drop i ts)) ≡ cond good (misnamed all (names_in (take (i + 1) ts)) (map task_of (drop (i + 1) ts))) (Some t.line)
unfolding misnamed
misnamed_turn all ts i t good below is tested =
    ap (λ us. misnamed all (names_in (take i ts)) (map task_of us)) (drop_item ts i t below is)
    ∙ ap (λ ws. cond (is_named all (names_in (take i ts)) (task_of t)) (misnamed all ws (map task_of (drop (i + 1) ts))) (Some t.line)) (sym (names_in_take ts i t below is))
    ∙ ap (λ b. cond b (misnamed all (names_in (take (i + 1) ts)) (map task_of (drop (i + 1) ts))) (Some t.line)) (sym tested)

pub misnamed_start : (all : List (List ℕ)) (ts : List Task) → misnamed all [] ts ≡ misnamed all (names_in []) ts
unfolding names_of
misnamed_start all ts = refl

pub misnamed_none : (all earlier : List (List ℕ)) → misnamed all earlier (map task_of []) ≡ None
unfolding misnamed
misnamed_none all earlier = refl
