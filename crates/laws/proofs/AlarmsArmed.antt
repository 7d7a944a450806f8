-- What acts do to the alarms: they arm some, each with the next serial, and the order stays.
use Rattle.std.proofs.Common.{◌≡◌, ℕ, ◌+◌, ◌<◌, ◌≤◌, Bool, true, List, [], ◌∷◌, ◌++◌, sym, refl, subst, ⊎_elim, arith}
use Rattle.std.proofs.lemmas.Bool.{cases_lt}
use Rattle.alarms.specs.declared.Alarm.{Alarm}
use Rattle.alarms.specs.Order.{ordered}
use Rattle.alarms.specs.Model.{Bells}
use Rattle.alarms.proofs.Orders.{InOrder, ordered_placed}
use Rattle.deterministic.specs.Model.{Model}
use Rattle.deterministic.specs.Moves.{wake, register, arm, mark, pend, leave, grow, quiet, armed}
use Rattle.deterministic.specs.Acts.{Act, arming, all_of}
use Rattle.deterministic.specs.History.{same}
use Rattle.laws.specs.Story.{Did, moves, polls, skips, calls, Path, here, next}
use Rattle.laws.proofs.AlarmsCounts.{one_most, one_none, number, number_append, number_placed, same_serial}

-- from the one to the other these alarms were armed
pub record Grew (B C : Bells) (xs : List Alarm) : Type 0 where
  -- what passes a test stood before, or was armed
  pub numbers : (test : Alarm → Bool) → number test C.alarms ≡ number test B.alarms + number test xs
  -- their serials are new, from the next one on up to the one that is next then, and no alarm is armed twice
  pub up : B.next ≤ C.next
  pub low : (a : Alarm) → a.serial < B.next → number (same a) xs ≡ 0
  pub high : (a : Alarm) → C.next ≤ a.serial → number (same a) xs ≡ 0
  pub once : (a : Alarm) → number (same a) xs ≤ 1
  -- alarms in order stay in order
  pub orders : InOrder B → InOrder C

pub grew_none : (B : Bells) → Grew B B []
grew_none B = record { numbers = λ test. omega arith; up = omega arith; low = λ a h. refl; high = λ a h. refl; once = λ a. omega arith; orders = λ o. o }

-- another serial, another alarm
other_alarm : (a x : Alarm) → (x.serial ≡ a.serial → ⊥) → number (same a) (x ∷ []) ≡ 0
other_alarm a x h = omega (arith, one_none (same a x) (λ e. h (same_serial a x e)))

pub grew_arm : (x : Alarm) (B : Bells) → x.serial ≡ B.next → Grew B (armed x B) (x ∷ [])
grew_arm x B e = record {
  numbers = λ test. number_placed test x B.alarms;
  up = omega arith;
  low = λ a h. other_alarm a x (λ q. omega (arith, q, e));
  high = λ a h. other_alarm a x (λ q. omega (arith, q, e));
  once = λ a. omega (arith, one_most (same a x));
  orders = λ o. subst (λ (n : ℕ). ordered (n + 1) (armed x B).alarms ≡ true) e (ordered_placed x B.alarms (subst (λ (n : ℕ). ordered n B.alarms ≡ true) (sym e) o));
}

pub grew_then : (B C D : Bells) (xs ys : List Alarm) → Grew B C xs → Grew C D ys → Grew B D (xs ++ ys)
grew_then B C D xs ys g h = record {
  numbers = λ test. omega (arith, g.numbers test, h.numbers test, number_append test xs ys);
  up = omega (arith, g.up, h.up);
  low = λ a k. omega (arith, number_append (same a) xs ys, g.low a k, h.low a (omega (arith, g.up)));
  high = λ a k. omega (arith, number_append (same a) xs ys, g.high a (omega (arith, h.up)), h.high a k);
  once = λ a. ⊎_elim
      (λ k. omega (arith, number_append (same a) xs ys, h.low a k, g.once a))
      (λ k. omega (arith, number_append (same a) xs ys, g.high a k, h.once a))
      (cases_lt a.serial C.next);
  orders = λ o. h.orders (g.orders o);
}

act_grew : (m n : Model) (a : Act) → Did m a n → Grew m.alarms n.alarms (arming a)
act_grew m _ _ (moves (wake i cause) f) = grew_none m.alarms
act_grew m _ _ (moves (register i label node) f) = grew_none m.alarms
act_grew m _ _ (moves (arm x) f) = grew_arm x m.alarms f.serial
act_grew m _ _ (moves (mark i) f) = grew_none m.alarms
act_grew m _ _ (moves (pend i) f) = grew_none m.alarms
act_grew m _ _ (moves (leave i ending) f) = grew_none m.alarms
act_grew m _ _ (moves (grow g) f) = grew_none m.alarms
act_grew m _ _ (moves (quiet q) f) = grew_none m.alarms
act_grew m _ _ (polls t called ids d r) = grew_none m.alarms
act_grew m _ _ (skips i ids d r) = grew_none m.alarms
act_grew m _ _ (calls t c) = grew_none m.alarms

pub path_grew : (m n : Model) (h : List Act) → Path m h n → Grew m.alarms n.alarms (all_of arming h)
unfolding all_of
path_grew m n h here = grew_none m.alarms
path_grew m n h (next {n = k} {a = a} {more = more} d p) =
    grew_then m.alarms k.alarms n.alarms (arming a) (all_of arming more) (act_grew m k a d) (path_grew k n more p)
