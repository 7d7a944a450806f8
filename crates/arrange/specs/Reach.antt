-- What a shuffle can come to. Assumes nothing.
use Rattle.std.specs.Prelude.{◌≡◌, ℕ, ◌<◌, List, length}
use Rattle.std.specs.List.{AllByRecursion}
use Rattle.arrange.specs.Deck.{deck, shuffled}
use Rattle.arrange.specs.Order.{EquallyOften}
use Rattle.arrange.specs.Tape.{tape_rule}

-- some tape, with each draw below the number of ids, shuffles the ids into the order
pub record Reached (ids order : List ℕ) : Type 0 where
  pub draws : List ℕ
  pub low : AllByRecursion (λ d. d < length ids) draws
  pub is : (shuffled tape_rule (deck draws ids)).items ≡ order

-- every order that has the same ids, each equally often, can come
abbrev pub EveryOrder : Type 0
EveryOrder = (ids order : List ℕ) → EquallyOften ids order → Reached ids order
