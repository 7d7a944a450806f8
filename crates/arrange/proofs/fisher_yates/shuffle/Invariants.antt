-- What is left to swap, done from where the loop stands, gives the whole shuffle.
use Rattle.std.proofs.Common.{◌≡◌, ◌-◌}
use Rattle.arrange.specs.Deck.{deck, swaps, shuffled}
use Rattle.arrange.proofs.fisher_yates.shuffle.Given as goal

abbrev pub invariant-loop-i : goal.invariant-loop-i
invariant-loop-i g l =
    let d = g.D.Draws in
    swaps d.rule (l.i - 1) (deck (d.value l.source) l.items) ≡ shuffled d.rule (deck (d.value l.initial.source) l.initial.items)
