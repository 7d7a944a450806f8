-- Reading digits from the left, and the numbers that come of it. Assumes nothing.
use Rattle.std.proofs.Common.{◌≡◌, ℕ, ◌+◌, ◌-◌, ◌*◌, ◌<◌, ◌≤◌, Bool, true, false, cond, ◌&&◌, leb, List, [], ◌∷◌, length, get_or, drop, Some, None, Ok, Err, Option, sym, refl, ap, ◌∙◌, le_trans, le_refl, arith}
use Rattle.std.specs.Option.{ok_or}
use Rattle.std.proofs.lemmas.List.{at_drop_more, at_drop_all}
use Rattle.std.proofs.lemmas.Bool.{lt-leb, le-leb}
use Rattle.tokens.specs.declared.token.LineFault.TheVariants.{NoForm}
use Rattle.tokens.specs.Numbers.{is_digit, all_digits, read_on, numeral_up_to}

-- a number only grows by the digits that follow
pub grows : (n : ℕ) (bs : List ℕ) → n ≤ read_on n bs
grows n [] = le_refl n
grows n (b ∷ bs) = le_trans (omega arith) (grows (n * 10 + (b - 48)) bs)

-- the number that n becomes by the digits after it, where they are digits and it is at most the given one
abbrev pub on_up_to : ℕ → ℕ → List ℕ → Option ℕ
on_up_to most n bs = cond (all_digits bs && leb (read_on n bs) most) (Some (read_on n bs)) None

pub on_up_to_start : (most : ℕ) (bs : List ℕ) → 0 < length bs → numeral_up_to most bs ≡ on_up_to most 0 bs
on_up_to_start most [] h = absurd (omega arith)
on_up_to_start most (b ∷ bs) h = refl

pub on_up_to_no_digit : (most n b : ℕ) (bs : List ℕ) → is_digit b ≡ false → on_up_to most n (b ∷ bs) ≡ None
on_up_to_no_digit most n b bs e =
    ap (λ (t : Bool). cond ((t && all_digits bs) && leb (read_on n (b ∷ bs)) most) (Some (read_on n (b ∷ bs))) None) e

pub on_up_to_past : (most n b : ℕ) (bs : List ℕ) → most < n * 10 + (b - 48) → on_up_to most n (b ∷ bs) ≡ None
on_up_to_past most n b bs h =
    let far : leb (read_on n (b ∷ bs)) most ≡ false = lt-leb _ _ (le_trans h (grows (n * 10 + (b - 48)) bs)) in
    both (is_digit b && all_digits bs) far
  where
    both : (t : Bool) {u : Bool} → u ≡ false → cond (t && u) (Some (read_on n (b ∷ bs))) None ≡ None
    both true e = ap (λ (u : Bool). cond u (Some (read_on n (b ∷ bs))) None) e
    both false e = refl

pub on_up_to_more : (most n b : ℕ) (bs : List ℕ) → is_digit b ≡ true → on_up_to most n (b ∷ bs) ≡ on_up_to most (n * 10 + (b - 48)) bs
on_up_to_more most n b bs e =
    ap (λ (t : Bool). cond ((t && all_digits bs) && leb (read_on n (b ∷ bs)) most) (Some (read_on n (b ∷ bs))) None) e

pub on_up_to_end : (most n : ℕ) → n ≤ most → on_up_to most n [] ≡ Some n
on_up_to_end most n h = ap (λ (t : Bool). cond t (Some n) None) (le-leb n most h)

pub on_up_to_far : (most n : ℕ) → most < n → on_up_to most n [] ≡ None
on_up_to_far most n h = ap (λ (t : Bool). cond t (Some n) None) (lt-leb n most h)

-- one byte more of xs, from the place i on: it is no digit, it takes the number too far, or it is read
pub turn_no_digit : (most n i : ℕ) (xs : List ℕ) → i < length xs → is_digit (get_or xs i 0) ≡ false → on_up_to most n (drop i xs) ≡ None
turn_no_digit most n i xs h e = at_drop_more (on_up_to most n) xs i 0 h ∙ on_up_to_no_digit most n (get_or xs i 0) (drop (i + 1) xs) e

pub turn_past : (most n i : ℕ) (xs : List ℕ) → i < length xs → most < n * 10 + (get_or xs i 0 - 48) → on_up_to most n (drop i xs) ≡ None
turn_past most n i xs h far = at_drop_more (on_up_to most n) xs i 0 h ∙ on_up_to_past most n (get_or xs i 0) (drop (i + 1) xs) far

pub turn_more : (most n m i : ℕ) (xs : List ℕ) → i < length xs → is_digit (get_or xs i 0) ≡ true → n * 10 + (get_or xs i 0 - 48) ≡ m → on_up_to most n (drop i xs) ≡ on_up_to most m (drop (i + 1) xs)
turn_more most n m i xs h e is =
    at_drop_more (on_up_to most n) xs i 0 h ∙ on_up_to_more most n (get_or xs i 0) (drop (i + 1) xs) e ∙ ap (λ (k : ℕ). on_up_to most k (drop (i + 1) xs)) is

-- no byte is left
pub turn_end : (most n i : ℕ) (xs : List ℕ) → length xs ≤ i → n ≤ most → on_up_to most n (drop i xs) ≡ Some n
turn_end most n i xs h small = at_drop_all (on_up_to most n) xs i h ∙ on_up_to_end most n small

pub turn_far : (most n i : ℕ) (xs : List ℕ) → length xs ≤ i → most < n → on_up_to most n (drop i xs) ≡ None
turn_far most n i xs h far = at_drop_all (on_up_to most n) xs i h ∙ on_up_to_far most n far

-- whether all are digits, by one byte more
pub all_stops : (i : ℕ) (xs : List ℕ) → i < length xs → is_digit (get_or xs i 0) ≡ false → all_digits (drop i xs) ≡ false
all_stops i xs h e = at_drop_more all_digits xs i 0 h ∙ ap (λ (t : Bool). t && all_digits (drop (i + 1) xs)) e

pub all_more : (i : ℕ) (xs : List ℕ) → i < length xs → is_digit (get_or xs i 0) ≡ true → all_digits (drop i xs) ≡ all_digits (drop (i + 1) xs)
all_more i xs h e = at_drop_more all_digits xs i 0 h ∙ ap (λ (t : Bool). t && all_digits (drop (i + 1) xs)) e

-- an answer or none, as an answer or a fault
pub as_ok : {A : Type 0} (o : Option A) (x : A) → o ≡ Some x → Ok x ≡ ok_or o NoForm
as_ok o x e = sym (ap (λ (p : Option _). ok_or p NoForm) e)

pub as_fault : {A : Type 0} (o : Option A) → o ≡ None → Err NoForm ≡ ok_or o NoForm
as_fault o e = sym (ap (λ (p : Option _). ok_or p NoForm) e)
