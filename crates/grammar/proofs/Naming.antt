-- Names are found in order exactly if they are distinct and each one that is used is a task's. Assumes nothing.
use Rattle.std.proofs.Common.{◌≡◌, ℕ, Bool, true, false, cond, not, List, [], ◌∷◌, ◌++◌, Some, None, Option, sym, refl, ◌∙◌, ⊎_elim}
use Rattle.std.specs.Str.{bytes_eq}
use Rattle.std.proofs.lemmas.Slice.Eq.{bytes_eq-Decides}
use Rattle.std.proofs.lemmas.Bool.{both_ways, cases_Bool, not-true, not_from_false, and_parts, and_from, or_parts, or_from, cond-true}
use Rattle.forms.specs.Meaning.{Task}
use Rattle.grammar.specs.Reading.{is_among, names_of, all_known, is_named, misnamed}
use Rattle.grammar.specs.Reads.{Distinct, AllKnown}
use Rattle.grammar.proofs.Cases.{none≢some}

same_bytes_turned : (v w : List ℕ) → bytes_eq v w ≡ false → bytes_eq w v ≡ false
same_bytes_turned v w h =
    ⊎_elim (λ e. absurd (both_ways (bytes_eq v w) h ((bytes_eq-Decides v w).1 (sym ((bytes_eq-Decides w v).0 e))))) (λ e. e) (cases_Bool (bytes_eq w v))

is_among_push : (v : List ℕ) (ws : List (List ℕ)) (w : List ℕ) → is_among v ws ≡ false → bytes_eq v w ≡ false → is_among v (ws ++ w ∷ []) ≡ false
unfolding is_among
is_among_push v [] w h e = or_from (bytes_eq v w) false e refl
is_among_push v (u ∷ ws) w h e =
    let both = or_parts (bytes_eq v u) (is_among v ws) h in
    or_from (bytes_eq v u) (is_among v (ws ++ w ∷ [])) both.0 (is_among_push v ws w both.1 e)

is_among_pushed : (v : List ℕ) (ws : List (List ℕ)) (w : List ℕ) → is_among v (ws ++ w ∷ []) ≡ false → (is_among v ws ≡ false) × (bytes_eq v w ≡ false)
unfolding is_among
is_among_pushed v [] w h = (refl, (or_parts (bytes_eq v w) false h).0)
is_among_pushed v (u ∷ ws) w h =
    let both = or_parts (bytes_eq v u) (is_among v (ws ++ w ∷ [])) h in
    let more = is_among_pushed v ws w both.1 in
    (or_from (bytes_eq v u) (is_among v ws) both.0 more.0, more.1)

-- none of the names is among the earlier ones
abbrev Apart : List (List ℕ) → List (List ℕ) → Type 0
Apart earlier [] = Unit {0}
Apart earlier (w ∷ ws) = (is_among w earlier ≡ false) × Apart earlier ws

apart_none : (ws : List (List ℕ)) → Apart [] ws
unfolding is_among
apart_none [] = tt
apart_none (w ∷ ws) = (refl, apart_none ws)

apart_push : (earlier : List (List ℕ)) (w : List ℕ) (ws : List (List ℕ)) → Apart earlier ws → is_among w ws ≡ false → Apart (earlier ++ w ∷ []) ws
unfolding is_among
apart_push earlier w [] a h = tt
apart_push earlier w (v ∷ vs) a h =
    let both = or_parts (bytes_eq w v) (is_among w vs) h in
    (is_among_push v earlier w a.0 (same_bytes_turned w v both.0), apart_push earlier w vs a.1 both.1)

apart_pushed : (earlier : List (List ℕ)) (w : List ℕ) (ws : List (List ℕ)) → Apart (earlier ++ w ∷ []) ws → Apart earlier ws × (is_among w ws ≡ false)
unfolding is_among
apart_pushed earlier w [] a = (tt, refl)
apart_pushed earlier w (v ∷ vs) a =
    let this = is_among_pushed v earlier w a.0 in
    let more = apart_pushed earlier w vs a.1 in
    ((this.0, more.0), or_from (bytes_eq w v) (is_among w vs) (same_bytes_turned v w this.1) more.1)

cond_named : (t : Bool) (o : Option ℕ) (n : ℕ) → cond t o (Some n) ≡ None → (t ≡ true) × (o ≡ None)
cond_named true o n h = (refl, h)
cond_named false o n h = absurd (none≢some (sym h))

-- none of the tasks is misnamed after the earlier names
misnamed_parts : (all earlier : List (List ℕ)) (ts : List Task) → misnamed all earlier ts ≡ None → Distinct (names_of ts) × AllKnown all ts × Apart earlier (names_of ts)
unfolding misnamed names_of Distinct AllKnown
misnamed_parts all earlier [] h = (tt, tt, tt)
misnamed_parts all earlier (t ∷ ts) h =
    let is = cond_named (is_named all earlier t) (misnamed all (earlier ++ t.name ∷ []) ts) t.line h in
    let this = and_parts (not (is_among t.name earlier)) (all_known all t.acts) is.0 in
    let more = misnamed_parts all (earlier ++ t.name ∷ []) ts is.1 in
    let apart = apart_pushed earlier t.name (names_of ts) more.2 in
    ((apart.1, more.0), (this.1, more.1), (not-true (is_among t.name earlier) this.0, apart.0))

misnamed_from : (all earlier : List (List ℕ)) (ts : List Task) → Distinct (names_of ts) → AllKnown all ts → Apart earlier (names_of ts) → misnamed all earlier ts ≡ None
unfolding misnamed names_of Distinct AllKnown
misnamed_from all earlier [] d k a = refl
misnamed_from all earlier (t ∷ ts) d k a =
    cond-true (is_named all earlier t) (misnamed all (earlier ++ t.name ∷ []) ts) (Some t.line)
    (and_from (not (is_among t.name earlier)) (all_known all t.acts) (not_from_false (is_among t.name earlier) a.0) k.0)
    ∙ misnamed_from all (earlier ++ t.name ∷ []) ts d.1 k.1 (apart_push earlier t.name (names_of ts) a.1 d.0)

-- where no task is misnamed, the names are distinct and known
pub misnamed_none : (all : List (List ℕ)) (ts : List Task) → misnamed all [] ts ≡ None → Distinct (names_of ts) × AllKnown all ts
misnamed_none all ts h = let is = misnamed_parts all [] ts h in (is.0, is.1)

-- where the names are distinct and known, no task is misnamed
pub none_misnamed : (all : List (List ℕ)) (ts : List Task) → Distinct (names_of ts) → AllKnown all ts → misnamed all [] ts ≡ None
none_misnamed all ts d k = misnamed_from all [] ts d k (apart_none (names_of ts))
