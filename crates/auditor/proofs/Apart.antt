-- Two different events never hash the same bytes: the lengths say where each part ends.
use Rattle.std.proofs.Common.{◌≡◌, ℕ, ◌^◌, ◌<◌, List, [], ◌∷◌, ◌++◌, length, get_or, ℤ, pos, negsuc, codes, sym, refl, ap, ◌∙◌, append-nil, arith, w32, SFits}
use mathlib.Core.List.{head-eq_of_cons-eq, tail-eq_of_cons-eq}
use Rattle.auditor.specs.Bytes.{big_endian, framed, Unambiguous}
use Rattle.auditor.specs.Events.{Event, process_task, stop, stopped, name_of, parts_of, two's_complement, Signed32, Possible, Unmistakable}
use Rattle.auditor.proofs.Endian.{big_endian_injective}

-- equal lists whose fronts are equally long have equal fronts and equal rests
append_apart : (front other rest tail : List ℕ) → length front ≡ length other → front ++ rest ≡ other ++ tail → (front ≡ other) × (rest ≡ tail)
append_apart [] [] rest tail long same = (refl, same)
append_apart [] (y ∷ other) rest tail long same = absurd (omega arith)
append_apart (x ∷ front) [] rest tail long same = absurd (omega arith)
append_apart (x ∷ front) (y ∷ other) rest tail long same =
    let later = append_apart front other rest tail (omega arith) (tail-eq_of_cons-eq same) in
    ((λ i. head-eq_of_cons-eq same i ∷ later.0 i), later.1)

-- behind its length a part stands whole
behind_length : (part other rest tail : List ℕ) → big_endian 8 (length part) ++ (part ++ rest) ≡ big_endian 8 (length other) ++ (other ++ tail) → part ++ rest ≡ other ++ tail
behind_length part other rest tail same =
    (append_apart (big_endian 8 (length part)) (big_endian 8 (length other)) (part ++ rest) (other ++ tail) refl same).1

first_part : (part other : List ℕ) (parts others : List (List ℕ)) → length part ≡ length other → framed (part ∷ parts) ≡ framed (other ∷ others) → (part ≡ other) × (framed parts ≡ framed others)
first_part part other parts others long same =
    append_apart part other (framed parts) (framed others) long (behind_length part other (framed parts) (framed others) same)

-- the prefixes of a part tell how long it is
same_length : (part other rest tail : List ℕ) → length part < 2 ^ 64 → length other < 2 ^ 64 → big_endian 8 (length part) ++ rest ≡ big_endian 8 (length other) ++ tail → length part ≡ length other
same_length part other rest tail p q same =
    big_endian_injective 8 (length part) (length other) p q (append_apart (big_endian 8 (length part)) (big_endian 8 (length other)) rest tail refl same).0

-- some bytes are not none
some_none : (x : ℕ) (xs : List ℕ) → x ∷ xs ≡ [] → ⊥
some_none x xs same = let h = ap length same in omega (arith, h)

pub framed_apart : Unambiguous
framed_apart [] [] p q same = refl
framed_apart [] (other ∷ others) p q same = absurd (some_none _ _ (sym same))
framed_apart (part ∷ parts) [] p q same = absurd (some_none _ _ same)
framed_apart (part ∷ parts) (other ∷ others) p q same =
    let long = same_length part other (part ++ framed parts) (other ++ framed others) p.0 q.0 same in
    let pieces = first_part part other parts others long same in
    let later = framed_apart parts others p.1 q.1 pieces.1 in
    (λ i. pieces.0 i ∷ later i)

last_part : (part other : List ℕ) → framed (part ∷ []) ≡ framed (other ∷ []) → part ≡ other
last_part part other same = sym (append-nil part) ∙ behind_length part other [] [] same ∙ append-nil other

-- what the code's signed 32-bit type holds is a signed 32-bit number
pub value_fits : (v : ℤ) → SFits w32 v → Signed32 v
value_fits (pos n) fits = fits.sfits
value_fits (negsuc n) fits = fits.sfits

two's_complement_injective : (v w : ℤ) → Signed32 v → Signed32 w → two's_complement v ≡ two's_complement w → v ≡ w
two's_complement_injective (pos m) (pos n) p q same = ap pos same
two's_complement_injective (pos m) (negsuc n) p q same = absurd (omega arith)
two's_complement_injective (negsuc m) (pos n) p q same = absurd (omega arith)
two's_complement_injective (negsuc m) (negsuc n) p q same = let e : m ≡ n = omega arith in ap negsuc e

two's_complement_fits : (v : ℤ) → Signed32 v → two's_complement v < 256 ^ 4
two's_complement_fits (pos n) p = omega arith
two's_complement_fits (negsuc n) p = omega arith

-- the byte that tells the lengths of the three names apart
abbrev length_byte : List ℕ → ℕ
length_byte bytes = get_or bytes 7 0

-- what an event hashes behind the digest tells the event
name_and_parts : (other event : Event) → Possible other → Possible event → framed (name_of other ∷ parts_of other) ≡ framed (name_of event ∷ parts_of event) → other ≡ event
name_and_parts (process_task i l) (process_task id label) p q same =
    let named = (first_part (codes "process_task") (codes "process_task") (big_endian 16 i ∷ l ∷ []) (big_endian 16 id ∷ label ∷ []) refl same).1 in
    let ids = first_part (big_endian 16 i) (big_endian 16 id) (l ∷ []) (label ∷ []) refl named in
    let same_id : i ≡ id = big_endian_injective 16 i id (omega arith) (omega arith) ids.0 in
    let same_label : l ≡ label = last_part l label ids.1 in
    (λ k. process_task (same_id k) (same_label k))
name_and_parts (stop v) (stop value) p q same =
    let named = (first_part (codes "stop") (codes "stop") (big_endian 4 (two's_complement v) ∷ []) (big_endian 4 (two's_complement value) ∷ []) refl same).1 in
    let bytes = last_part (big_endian 4 (two's_complement v)) (big_endian 4 (two's_complement value)) named in
    let numbers = big_endian_injective 4 (two's_complement v) (two's_complement value) (two's_complement_fits v p) (two's_complement_fits value q) bytes in
    ap stop (two's_complement_injective v value p q numbers)
name_and_parts stopped stopped p q same = refl
name_and_parts (process_task i l) (stop value) p q same = let h = ap length_byte same in absurd (omega (arith, h))
name_and_parts (process_task i l) stopped p q same = let h = ap length_byte same in absurd (omega (arith, h))
name_and_parts (stop v) (process_task id label) p q same = let h = ap length_byte same in absurd (omega (arith, h))
name_and_parts (stop v) stopped p q same = let h = ap length_byte same in absurd (omega (arith, h))
name_and_parts stopped (process_task id label) p q same = let h = ap length_byte same in absurd (omega (arith, h))
name_and_parts stopped (stop value) p q same = let h = ap length_byte same in absurd (omega (arith, h))

pub hashed_apart : (digest : List ℕ) (event : Event) → length digest ≡ 4 → Possible event → Unmistakable digest event
unfolding Unmistakable
hashed_apart digest event long possible before other long' possible' same =
    let digests = first_part before digest (name_of other ∷ parts_of other) (name_of event ∷ parts_of event) (long' ∙ sym long) same in
    (digests.0, name_and_parts other event possible' possible digests.1)
