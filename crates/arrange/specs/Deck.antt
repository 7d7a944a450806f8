-- The shuffle, over any items and any source of draws. Assumes nothing.
use Rattle.std.specs.Prelude.{ℕ, zero, suc, ◌+◌, ◌-◌, ◌%◌, List, length}
use Rattle.std.specs.List.{swap}
use Rattle.arrange.specs.Draws.{Drawn}

-- a source's value beside the items that its draws put in order
pub record Deck (V T : Type 0) : Type 0 where
  pub value : V
  pub items : List T

-- the deck of a value and items
abbrev pub deck : {V T : Type 0} → V → List T → Deck V T
deck v xs = record { value = v; items = xs }

module _ {V T : Type 0} (rule : V → Drawn V) where
  -- one draw swaps place i with place (draw mod (i + 1))
  abbrev pub swapped : ℕ → Deck V T → Deck V T
  swapped i d = deck (rule d.value).value (swap d.items i ((rule d.value).draw % (i + 1)))

  -- the swaps at the places from i down to 1
  abbrev pub swaps : ℕ → Deck V T → Deck V T
  swaps zero d = d
  swaps (suc i) d = swaps i (swapped (suc i) d)

  -- the swaps from the last place down to place 1
  abbrev pub shuffled : Deck V T → Deck V T
  shuffled d = swaps (length d.items - 1) d
