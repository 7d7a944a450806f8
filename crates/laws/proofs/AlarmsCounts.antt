-- How many alarms of a list pass a test: of lists one behind another, of an alarm placed, of what is due and what is later.
use Rattle.std.proofs.Common.{◌≡◌, ℕ, ◌+◌, ◌<◌, ◌≤◌, Bool, true, false, cond, not, ◌&&◌, eqb, leb, List, [], ◌∷◌, ◌++◌, sym, refl, ap, arith}
use Rattle.std.proofs.lemmas.Bool.{and_parts, eqb-true, eq-eqb, leb-true, leb-false, cond_both}
use Rattle.alarms.specs.declared.Alarm.{Alarm}
use Rattle.alarms.specs.Model.{placed}
use Rattle.alarms.specs.Laws.{due, later}
use Rattle.deterministic.specs.History.{same, count, for_at}

-- 1 for what passes, 0 for what does not
abbrev pub one : Bool → ℕ
one b = cond b 1 0

pub one_most : (b : Bool) → one b ≤ 1
one_most b = cond_both b 1 0 (λ n. n ≤ 1) (λ _. omega arith) (λ _. omega arith)

pub one_none : (b : Bool) → (b ≡ true → ⊥) → one b ≡ 0
one_none b h = cond_both b 1 0 (λ n. n ≡ 0) (λ e. absurd (h e)) (λ _. refl)

module _ (test : Alarm → Bool) where
  -- how many of a list pass
  abbrev pub number : List Alarm → ℕ
  number [] = 0
  number (a ∷ more) = one (test a) + number more

  pub number_append : (xs ys : List Alarm) → number (xs ++ ys) ≡ number xs + number ys
  number_append [] ys = omega arith
  number_append (x ∷ xs) ys = omega (arith, number_append xs ys)

  pub number_placed : (a : Alarm) (xs : List Alarm) → number (placed a xs) ≡ number xs + number (a ∷ [])
  number_placed a [] = omega arith
  number_placed a (x ∷ xs) =
      let more = number_placed a xs in
      cond_both (leb x.time a.time) (x ∷ placed a xs) (a ∷ x ∷ xs) (λ (l : List Alarm). number l ≡ one (test x) + number xs + (one (test a) + 0)) (λ _. omega (arith, more)) (λ _. omega arith)

  pub number_split : (clock : ℕ) (xs : List Alarm) → number (due clock xs) + number (later clock xs) ≡ number xs
  number_split clock [] = refl
  number_split clock (x ∷ xs) = go (leb x.time clock) (number_split clock xs) where
    go : (b : Bool) → number (due clock xs) + number (later clock xs) ≡ number xs →
        number (cond b (x ∷ due clock xs) (due clock xs)) + number (cond (not b) (x ∷ later clock xs) (later clock xs)) ≡ one (test x) + number xs
    go true e = omega (arith, e)
    go false e = omega (arith, e)

  -- only alarms of one time pass
  module _ (time : ℕ) (at : (a : Alarm) → test a ≡ true → a.time ≡ time) where
    pub number_due : (clock : ℕ) (xs : List Alarm) → time ≤ clock → number (due clock xs) ≡ number xs
    number_due clock [] h = refl
    number_due clock (x ∷ xs) h =
        let more = number_due clock xs h in
        cond_both (leb x.time clock) (x ∷ due clock xs) (due clock xs) (λ (l : List Alarm). number l ≡ one (test x) + number xs) (λ _. omega (arith, more))
        (λ late. omega (arith, more, one_none (test x) (λ e. omega (arith, leb-false x.time clock late, at x e))))

    pub number_none_due : (clock : ℕ) (xs : List Alarm) → clock < time → number (due clock xs) ≡ 0
    number_none_due clock [] h = refl
    number_none_due clock (x ∷ xs) h =
        let more = number_none_due clock xs h in
        cond_both (leb x.time clock) (x ∷ due clock xs) (due clock xs) (λ (l : List Alarm). number l ≡ 0)
        (λ early. omega (arith, more, one_none (test x) (λ e. omega (arith, leb-true x.time clock early, at x e))))
        (λ _. more)

-- an alarm stands so often as alarms pass that are the same
pub count_number : (a : Alarm) (xs : List Alarm) → count a xs ≡ number (same a) xs
unfolding count
count_number a [] = refl
count_number a (x ∷ xs) = ap (λ n. one (same a x) + n) (count_number a xs)

-- the alarm is for the task at the time
abbrev pub is_for : ℕ → ℕ → Alarm → Bool
is_for task time a = eqb task a.task && eqb time a.time

pub for_at_number : (task time : ℕ) (xs : List Alarm) → for_at task time xs ≡ number (is_for task time) xs
unfolding for_at
for_at_number task time [] = refl
for_at_number task time (x ∷ xs) = ap (λ n. one (is_for task time x) + n) (for_at_number task time xs)

pub same_serial : (a b : Alarm) → same a b ≡ true → b.serial ≡ a.serial
same_serial a b e = sym (eqb-true a.serial b.serial (and_parts (eqb a.serial b.serial) _ e).0)

pub same_time : (a b : Alarm) → same a b ≡ true → b.time ≡ a.time
same_time a b e = sym (eqb-true a.time b.time (and_parts (eqb a.time b.time) _ (and_parts (eqb a.serial b.serial) _ e).1).0)

pub for_time : (task time : ℕ) (a : Alarm) → is_for task time a ≡ true → a.time ≡ time
for_time task time a e = sym (eqb-true time a.time (and_parts (eqb task a.task) (eqb time a.time) e).1)

pub same_self : (a : Alarm) → same a a ≡ true
same_self a = rw (eq-eqb a.serial a.serial refl, eq-eqb a.time a.time refl, eq-eqb a.task a.task refl)
