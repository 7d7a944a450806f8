-- The shuffle as an arranger's rule. A rule carries its law, so the law's proof stands here. Assumes nothing.
use Rattle.std.specs.Prelude.{ℕ, zero, suc, ◌+◌, ◌-◌, ◌%◌, ◌<◌, List, length, refl}
use Rattle.std.proofs.Common.{mod-lt, arith}
use Rattle.std.specs.List.Sorted.{IsPermutation}
use Rattle.std.proofs.lemmas.List.Sorted.{IsPermutation-refl, IsPermutation-swap, IsPermutation-trans, length_permutation}
use Rattle.arrange.specs.Deck.{Deck, deck, swapped, swaps, shuffled}
use Rattle.arrange.specs.Draws.{Drawn}
use Rattle.arrange.specs.Order.{Order}

module _ {V T : Type 0} (rule : V → Drawn V) where
  -- one swap keeps the items
  swapped_same : (i : ℕ) (d : Deck V T) → i < length d.items → IsPermutation d.items (swapped rule i d).items
  swapped_same i d h =
      let j = (rule d.value).draw % (i + 1) in
      let low : j < i + 1 = mod-lt (rule d.value).draw (omega arith) in
      IsPermutation-swap d.items (swapped rule i d).items i j h (omega arith) refl

  -- and so do the swaps from a place on down
  swaps_same : (i : ℕ) (d : Deck V T) → (0 < i → i < length d.items) → IsPermutation d.items (swaps rule i d).items
  swaps_same zero d h = IsPermutation-refl d.items
  swaps_same (suc i) d h =
      let first = swapped rule (suc i) d in
      let in' : suc i < length d.items = h (omega arith) in
      let one = swapped_same (suc i) d in' in
      let long = length_permutation d.items first.items one in
      IsPermutation-trans d.items first.items (swaps rule i first).items one (swaps_same i first (λ _. omega (arith, long)))

  -- a shuffle has the same items, each equally often
  pub shuffled_same : (d : Deck V T) → IsPermutation d.items (shuffled rule d).items
  shuffled_same d = swaps_same (length d.items - 1) d (λ h. omega arith)

  -- the source's value and the items after a shuffle, with its law
  abbrev pub shuffle_rule : V → (items : List T) → Order V T items
  shuffle_rule v items = record { value = (shuffled rule (deck v items)).value; order = (shuffled rule (deck v items)).items; same = shuffled_same (deck v items) }
