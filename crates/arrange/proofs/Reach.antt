-- Every order can come: the last id is drawn from where it stands, and the ids before it are reached likewise. Assumes nothing.
use Rattle.std.proofs.Common.{◌≡◌, ℕ, zero, suc, ◌+◌, ◌-◌, ◌%◌, ◌<◌, Bool, true, cond, eqb, List, [], ◌∷◌, ◌++◌, length, get_or, take, count_by, sym, refl, ap, ◌∙◌, ⊎_elim, mod-lt, mod-eq_of_lt, arith}
use Rattle.std.specs.List.{swap, AllByRecursion}
use Rattle.std.proofs.ByRecursion.{All-weaker}
use Rattle.std.proofs.lemmas.List.{get_or_append_left, length-set, length-take-le, nil_from_length, set-append_left, take_all, take_more}
use Rattle.std.proofs.lemmas.List.Edits.{length-swap, swapped_from_swap}
use Rattle.std.proofs.lemmas.List.Recursion.{is_count_by}
use Rattle.std.proofs.lemmas.List.Sorted.{IsPermutation-swap, sum_by-IsPermutation}
use Rattle.std.proofs.lemmas.List.Sums.{sum_by-cons, sum_by_push}
use Rattle.std.proofs.lemmas.Bool.{cases_Bool, cond-false, cond-true, eq-eqb, eqb-true}
use Rattle.arrange.specs.Deck.{deck, swaps}
use Rattle.arrange.specs.Draws.{Drawn}
use Rattle.arrange.specs.Order.{EquallyOften}
use Rattle.arrange.specs.Reach.{EveryOrder}
use Rattle.arrange.specs.Tape.{tape_rule}

-- an exchange of places in the front leaves what follows
exchanged_front : {T : Type 0} (xs zs : List T) (a b : ℕ) → a < length xs → b < length xs → swap (xs ++ zs) a b ≡ swap xs a b ++ zs
exchanged_front [] zs a b h k = absurd (omega arith)
exchanged_front {T} (d ∷ l) zs a b h k = grind (arith, get_or_append_left {A = T}, set-append_left {A = T}, length-set {A = T})

-- the swaps in the front leave what follows
swaps_front : {V T : Type 0} (rule : V → Drawn V) (i : ℕ) (v : V) (xs zs : List T) → i < length xs → (swaps rule i (deck v (xs ++ zs))).items ≡ (swaps rule i (deck v xs)).items ++ zs
swaps_front rule zero v xs zs h = refl
swaps_front {V} {T} rule (suc i) v xs zs h =
    let k = (rule v).draw % (suc i + 1) in
    let low : k < suc i + 1 = mod-lt (rule v).draw (omega arith) in
    let in' : k < length xs = omega arith in
    let long = length-swap xs (suc i) k in
    ap (λ (m : List T). (swaps rule i (deck (rule v).value m)).items) (exchanged_front xs zs (suc i) k h in')
    ∙ swaps_front rule i (rule v).value (swap xs (suc i) k) zs (omega (arith, long))

-- an id that occurs stands somewhere
placed : (y : ℕ) (xs : List ℕ) → 0 < count_by (eqb y) xs → (j : ℕ) × (j < length xs) × (get_or xs j 0 ≡ y)
placed y [] h = absurd (omega arith)
placed y (x ∷ xs) h =
    ⊎_elim
    (λ e. (0, omega arith, sym (eqb-true y x e)))
    (λ e.
    let rest = placed y xs (omega (arith, sum_by-cons (λ z. cond (eqb y z) 1 0) x xs, cond-false {A = ℕ} (eqb y x) 1 0 e)) in
    (suc rest.0, omega (arith, rest.1), rest.2))
    (cases_Bool (eqb y x))

split_last : (xs : List ℕ) (n : ℕ) → length xs ≡ n + 1 → xs ≡ take n xs ++ get_or xs n 0 ∷ []
split_last xs n e = sym (take_all (n + 1) xs (omega arith)) ∙ take_more xs n 0 (omega arith)

count_last : (test : ℕ → Bool) (xs : List ℕ) (n : ℕ) → length xs ≡ n + 1 → count_by test xs ≡ count_by test (take n xs) + cond (test (get_or xs n 0)) 1 0
count_last test xs n e = ap (count_by test) (split_last xs n e) ∙ sum_by_push (λ z. cond (test z) 1 0) (take n xs) (get_or xs n 0)

-- the id that the order has last stands somewhere among the ids
last_placed : (xs ys : List ℕ) (n : ℕ) → length ys ≡ n + 1 → EquallyOften xs ys → (j : ℕ) × (j < length xs) × (get_or xs j 0 ≡ get_or ys n 0)
last_placed xs ys n e often =
    let y = get_or ys n 0 in
    placed y xs (omega (arith, often (eqb y), count_last (eqb y) ys n e, cond-true {A = ℕ} (eqb y y) 1 0 (eq-eqb y y refl)))

-- with equal last ids, the ids before them are equally often in both
often_before : (xs ys : List ℕ) (n : ℕ) → length xs ≡ n + 1 → length ys ≡ n + 1 → get_or xs n 0 ≡ get_or ys n 0 → EquallyOften xs ys → EquallyOften (take n xs) (take n ys)
often_before xs ys n lx ly e often test =
    let same : cond (test (get_or xs n 0)) 1 0 ≡ cond (test (get_or ys n 0)) 1 0 = ap (λ z. cond {A = ℕ} (test z) 1 0) e in
    omega (arith, often test, count_last test xs n lx, count_last test ys n ly, same)

-- what the draw j at place i + 1 does, where the order's last id stands at place j
record DrawnLast (xs ys : List ℕ) (i j : ℕ) : Type 0 where
  long : length (take (suc i) (swap xs (suc i) j)) ≡ i + 1
  before : length ys ≡ suc i + 1 → EquallyOften xs ys → EquallyOften (take (suc i) (swap xs (suc i) j)) (take (suc i) ys)
  after : length ys ≡ suc i + 1 → (ds : List ℕ) → (swaps tape_rule i (deck ds (take (suc i) (swap xs (suc i) j)))).items ≡ take (suc i) ys → (swaps tape_rule (suc i) (deck (j ∷ ds) xs)).items ≡ ys

drawn : (xs ys : List ℕ) (i j : ℕ) → length xs ≡ suc i + 1 → j < length xs → get_or xs j 0 ≡ get_or ys (suc i) 0 → DrawnLast xs ys i j
drawn xs ys i j lx k e =
    let h : suc i < length xs = omega arith in
    let one : List ℕ = swap xs (suc i) j in
    let same : EquallyOften xs one = λ test. sum_by-IsPermutation (λ x. cond (test x) 1 0) xs one (IsPermutation-swap xs one (suc i) j h k refl) in
    let all : length one ≡ suc i + 1 = length-swap xs (suc i) j ∙ lx in
    let front : length (take (suc i) one) ≡ i + 1 = omega (arith, length-take-le (suc i) one (omega (arith, all))) in
    let last : get_or one (suc i) 0 ≡ get_or ys (suc i) 0 = (swapped_from_swap xs one (suc i) j 0 h k refl).0 ∙ e in
    record {
      long = front;
      before = λ ly often. often_before one ys (suc i) all ly last (λ test. often test ∙ sym (same test));
      after = λ ly ds is.
          let go = λ (l : List ℕ). (swaps tape_rule i (deck ds l)).items in
          ap (λ m. go (swap xs (suc i) m)) (mod-eq_of_lt (omega arith))
          ∙ ap go (split_last one (suc i) all)
          ∙ swaps_front tape_rule i ds (take (suc i) one) (get_or one (suc i) 0 ∷ []) (omega (arith, front))
          ∙ (λ m. is m ++ last m ∷ [])
          ∙ sym (split_last ys (suc i) ly);
    }

-- the draws that lead from the ids to the order by the swaps from place i on down
record SwappedTo (i : ℕ) (xs ys : List ℕ) : Type 0 where
  draws : List ℕ
  low : AllByRecursion (λ d. d < i + 1) draws
  is : (swaps tape_rule i (deck draws xs)).items ≡ ys

swapped_to : (i : ℕ) (xs ys : List ℕ) → length xs ≡ i + 1 → length ys ≡ i + 1 → EquallyOften xs ys → SwappedTo i xs ys
swapped_to zero xs ys lx ly often =
    let at = last_placed xs ys 0 ly often in
    let first : at.0 ≡ 0 = omega (arith, at.1) in
    record {
      draws = [];
      low = tt;
      is = split_last xs 0 lx ∙ ap (λ z. z ∷ []) (ap (λ k. get_or xs k 0) (sym first) ∙ at.2) ∙ sym (split_last ys 0 ly);
    }
swapped_to (suc i) xs ys lx ly often =
    let at = last_placed xs ys (suc i) ly often in
    let first = drawn xs ys i at.0 lx at.1 at.2 in
    let before = swapped_to i (take (suc i) (swap xs (suc i) at.0)) (take (suc i) ys) first.long (omega (arith, length-take-le (suc i) ys (omega arith))) (first.before ly often) in
    record {
      draws = at.0 ∷ before.draws;
      low = (omega (arith, at.1), All-weaker (λ d. d < i + 1) (λ d. d < suc i + 1) (λ d lt. omega (arith, lt)) before.draws before.low);
      is = first.after ly before.draws before.is;
    }

count_all : (xs : List ℕ) → count_by (λ _. true) xs ≡ length xs
count_all xs = sym (is_count_by length (λ _. true) refl (λ x xs. omega arith) xs)

pub every_order : EveryOrder
every_order [] ys often = record { draws = []; low = tt; is = sym (nil_from_length ys (sym (count_all ys) ∙ often (λ _. true))) }
every_order (x ∷ xs) ys often =
    let long : length ys ≡ length (x ∷ xs) = sym (count_all ys) ∙ often (λ _. true) ∙ count_all (x ∷ xs) in
    let there = swapped_to (length xs) (x ∷ xs) ys (omega arith) (omega (arith, long)) often in
    let places : length (x ∷ xs) - 1 ≡ length xs = omega arith in
    record {
      draws = there.draws;
      low = All-weaker (λ d. d < length xs + 1) (λ d. d < length (x ∷ xs)) (λ d lt. omega (arith, lt)) there.draws there.low;
      is = ap (λ i. (swaps tape_rule i (deck there.draws (x ∷ xs))).items) places ∙ there.is;
    }
