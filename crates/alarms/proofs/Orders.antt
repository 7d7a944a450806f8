-- Ringing order, and what an arming keeps of it.
use Rattle.std.proofs.Common.{◌≡◌, ℕ, ◌+◌, ◌<◌, ◌≤◌, Bool, true, not, ◌&&◌, ◌||◌, eqb, ltb, leb, ◌⊎◌, List, [], ◌∷◌, sym, refl, ap, ◌∙◌, inl, inr, ⊎_elim, arith}
use Rattle.std.specs.List.{AllByRecursion}
use Rattle.std.proofs.lemmas.Bool.Decides.{nat_tests}
use Rattle.std.proofs.lemmas.Bool.{and_parts, and_from, leb-true, leb-false, ltb-true, lt-ltb, eqb-false, ne_eqb, not-true, not_from_false, cond_both}
use Rattle.keyed.specs.Members.{In}
use Rattle.alarms.specs.declared.Alarm.{Alarm}
use Rattle.alarms.specs.Order.{before, leads, unused, ordered}
use Rattle.alarms.specs.Model.{Bells, silent, placed, added, armed, has_room, alarm_of, rung, without_first_due}
use Rattle.alarms.specs.Laws.{Before, Rises}

-- the order on times and serials
abbrev sooner : ℕ → ℕ → ℕ → ℕ → Bool
sooner t s u r = ltb t u || (eqb t u && ltb s r)

sooner_parts : (t s u r : ℕ) → sooner t s u r ≡ true → (t < u) ⊎ ((t ≡ u) × (s < r))
sooner_parts t s u r h = grind (arith, nat_tests)

sooner_earlier : (t s u r : ℕ) → t < u → sooner t s u r ≡ true
sooner_earlier t s u r h = grind (arith, nat_tests)

sooner_armed : (t s u r : ℕ) → t ≤ u → s < r → sooner t s u r ≡ true
sooner_armed t s u r h k = grind (arith, nat_tests)

pub before_is : (a b : Alarm) → before a b ≡ true → Before a b
before_is a b h = sooner_parts a.time a.serial b.time b.serial h

pub before_time : (a b : Alarm) → before a b ≡ true → a.time ≤ b.time
before_time a b h = ⊎_elim (λ p. omega arith) (λ p. omega arith) (before_is a b h)

-- what an order says of its first alarm
pub record First (next : ℕ) (a : Alarm) (more : List Alarm) : Type 0 where
  pub low : a.serial < next
  pub leading : leads a more ≡ true
  pub alone : unused a.serial more ≡ true
  pub rest : ordered next more ≡ true

pub first_of : (next : ℕ) (a : Alarm) (more : List Alarm) → ordered next (a ∷ more) ≡ true → First next a more
first_of next a more o =
    let p = and_parts (ltb a.serial next) (leads a more && (unused a.serial more && ordered next more)) o in
    let q = and_parts (leads a more) (unused a.serial more && ordered next more) p.1 in
    let r = and_parts (unused a.serial more) (ordered next more) q.1 in
    record { low = ltb-true a.serial next p.0; leading = q.0; alone = r.0; rest = r.1 }

from_first : (next : ℕ) (a : Alarm) (more : List Alarm) → First next a more → ordered next (a ∷ more) ≡ true
from_first next a more f = and_from _ _ (lt-ltb a.serial next f.low) (and_from _ _ f.leading (and_from _ _ f.alone f.rest))

-- an alarm that leads a list rings before each of it
pub leads_all : (a : Alarm) (bs : List Alarm) → leads a bs ≡ true → AllByRecursion (Before a) bs
leads_all a [] h = tt
leads_all a (b ∷ bs) h = let p = and_parts (before a b) (leads a bs) h in (before_is a b p.0, leads_all a bs p.1)

-- an alarm that is earlier leads what the later one leads
leads_earlier : (a b : Alarm) (bs : List Alarm) → a.time < b.time → leads b bs ≡ true → leads a bs ≡ true
leads_earlier a b [] h l = refl
leads_earlier a b (c ∷ cs) h l =
    let p = and_parts (before b c) (leads b cs) l in
    let u = before_time b c p.0 in
    and_from _ _ (sooner_earlier a.time a.serial c.time c.serial (omega arith)) (leads_earlier a b cs h p.1)

leads_placed : (a b : Alarm) (bs : List Alarm) → before b a ≡ true → leads b bs ≡ true → leads b (placed a bs) ≡ true
leads_placed a b [] h l = and_from _ _ h refl
leads_placed a b (c ∷ cs) h l =
    let p = and_parts (before b c) (leads b cs) l in
    cond_both (leb c.time a.time) (c ∷ placed a cs) (a ∷ c ∷ cs) (λ (as' : List Alarm). leads b as' ≡ true)
    (λ _. and_from _ _ p.0 (leads_placed a b cs h p.1))
    (λ _. and_from _ _ h l)

-- another serial than that of an alarm
not_its : (serial : ℕ) (b : Alarm) → (b.serial ≡ serial → ⊥) → not (eqb b.serial serial) ≡ true
not_its serial b other = not_from_false _ (ne_eqb b.serial serial other)

-- a bound of the serials is none of them
unused_bound : (next : ℕ) (bs : List Alarm) → ordered next bs ≡ true → unused next bs ≡ true
unused_bound next [] o = refl
unused_bound next (b ∷ bs) o =
    let f = first_of next b bs o in
    and_from _ _ (not_its next b (λ same. omega (arith, f.low, same))) (unused_bound next bs f.rest)

unused_placed : (serial : ℕ) (a : Alarm) (bs : List Alarm) → serial < a.serial → unused serial bs ≡ true → unused serial (placed a bs) ≡ true
unused_placed serial a [] h u = and_from _ _ (not_its serial a (λ same. omega (arith, h, same))) refl
unused_placed serial a (c ∷ cs) h u =
    let p = and_parts (not (eqb c.serial serial)) (unused serial cs) u in
    cond_both (leb c.time a.time) (c ∷ placed a cs) (a ∷ c ∷ cs) (λ (as' : List Alarm). unused serial as' ≡ true)
    (λ _. and_from _ _ p.0 (unused_placed serial a cs h p.1))
    (λ _. and_from _ _ (not_its serial a (λ same. omega (arith, h, same))) u)

unused_in : (serial : ℕ) (bs : List Alarm) → unused serial bs ≡ true → (b : Alarm) → In b bs → b.serial ≡ serial → ⊥
unused_in serial [] u b i same = absurd i
unused_in serial (c ∷ cs) u b (inl e) same = eqb-false c.serial serial (not-true _ (and_parts (not (eqb c.serial serial)) (unused serial cs) u).0) (ap (λ (d : Alarm). d.serial) (sym e) ∙ same)
unused_in serial (c ∷ cs) u b (inr i) same = unused_in serial cs (and_parts (not (eqb c.serial serial)) (unused serial cs) u).1 b i same

-- of alarms in ringing order no two have one serial
pub ordered_only : (next : ℕ) (xs : List Alarm) → ordered next xs ≡ true → (a b : Alarm) → In a xs → In b xs → b.serial ≡ a.serial → b ≡ a
ordered_only next [] o a b i j same = absurd i
ordered_only next (x ∷ xs) o a b (inl e) (inl f) same = f ∙ sym e
ordered_only next (x ∷ xs) o a b (inl e) (inr j) same = absurd (unused_in x.serial xs (first_of next x xs o).alone b j (same ∙ ap (λ (d : Alarm). d.serial) e))
ordered_only next (x ∷ xs) o a b (inr i) (inl f) same = absurd (unused_in x.serial xs (first_of next x xs o).alone a i (sym same ∙ ap (λ (d : Alarm). d.serial) f))
ordered_only next (x ∷ xs) o a b (inr i) (inr j) same = ordered_only next xs (first_of next x xs o).rest a b i j same

ordered_wider : (next : ℕ) (bs : List Alarm) → ordered next bs ≡ true → ordered (next + 1) bs ≡ true
ordered_wider next [] o = refl
ordered_wider next (b ∷ bs) o =
    let f = first_of next b bs o in
    from_first (next + 1) b bs (record { low = omega (arith, f.low); leading = f.leading; alone = f.alone; rest = ordered_wider next bs f.rest })

pub ordered_placed : (a : Alarm) (bs : List Alarm) → ordered a.serial bs ≡ true → ordered (a.serial + 1) (placed a bs) ≡ true
ordered_placed a [] o = from_first (a.serial + 1) a [] (record { low = omega arith; leading = refl; alone = refl; rest = refl })
ordered_placed a (b ∷ bs) o =
    let f = first_of a.serial b bs o in
    cond_both (leb b.time a.time) (b ∷ placed a bs) (a ∷ b ∷ bs) (λ (l : List Alarm). ordered (a.serial + 1) l ≡ true)
    (λ early. from_first (a.serial + 1) b (placed a bs) (record {
      low = omega (arith, f.low);
      leading = leads_placed a b bs (sooner_armed b.time b.serial a.time a.serial (leb-true b.time a.time early) f.low) f.leading;
      alone = unused_placed b.serial a bs f.low f.alone;
      rest = ordered_placed a bs f.rest;
    }))
    (λ late. from_first (a.serial + 1) a (b ∷ bs) (record {
      low = omega arith;
      leading = and_from _ _ (sooner_earlier a.time a.serial b.time b.serial (leb-false b.time a.time late)) (leads_earlier a b bs (leb-false b.time a.time late) f.leading);
      alone = unused_bound a.serial (b ∷ bs) o;
      rest = ordered_wider a.serial (b ∷ bs) o;
    }))

-- every serial of a list in order is below the next
pub ordered_below : (next : ℕ) (bs : List Alarm) → ordered next bs ≡ true → AllByRecursion (λ b. b.serial < next) bs
ordered_below next [] o = tt
ordered_below next (b ∷ bs) o = let f = first_of next b bs o in (f.low, ordered_below next bs f.rest)

-- an added alarm's serial is new
pub rises_added : (task time serial : ℕ) (B C : Bells) → ordered B.next B.alarms ≡ true → serial ≡ B.next → C ≡ added task time B → Rises B C serial
rises_added task time serial B C o is left = rw (is, left) (record { counted = refl; new = ordered_below B.next B.alarms o; above = omega arith })

-- alarms in ringing order stay so, by every call that changes them
abbrev pub InOrder : Bells → Type 0
InOrder B = ordered B.next B.alarms ≡ true

pub in_order_silent : InOrder silent
in_order_silent = refl

pub in_order_armed : (task time : ℕ) (B : Bells) → InOrder B → InOrder (armed task time B)
in_order_armed task time B o = cond_both (has_room B) (added task time B) B InOrder (λ _. ordered_placed (alarm_of B task time) B.alarms o) (λ _. o)

rung_order : (clock next : ℕ) (xs : List Alarm) → ordered next xs ≡ true → ordered next (without_first_due clock xs) ≡ true
rung_order clock next [] o = o
rung_order clock next (a ∷ more) o = cond_both (leb a.time clock) more (a ∷ more) (λ (l : List Alarm). ordered next l ≡ true) (λ _. (first_of next a more o).rest) (λ _. o)

pub in_order_rung : (clock : ℕ) (B : Bells) → InOrder B → InOrder (rung clock B)
in_order_rung clock B o = rung_order clock B.next B.alarms o
