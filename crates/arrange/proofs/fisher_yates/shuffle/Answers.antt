-- The laws are those of a shuffled deck.
use Rattle.std.proofs.Common.{◌≡◌, subst, sym, rules}
use Rattle.std.proofs.lemmas.List.Sorted.{sum_by-IsPermutation}
use Rattle.std.specs.List.Sorted.{IsPermutation}
use Rattle.arrange.specs.Deck.{Deck, deck, shuffled}
use Rattle.arrange.specs.Shuffle.{shuffled_same}
use Rattle.arrange.proofs.Reach.{every_order}
use Rattle.arrange.proofs.fisher_yates.shuffle.Goals as goal

pub returns : goal.returns
returns g c =
    let d = g.D.Draws in
    let items = c.args.items.now in
    let start = deck (d.value c.args.source.now) items in
    let order : deck (d.value c.loop-i.source) c.loop-i.items ≡ shuffled d.rule start = search rules in
    let same = subst (λ (x : Deck _ _). IsPermutation items x.items) (sym order) (shuffled_same d.rule start) in
    record { order = order; same = same; often = λ test. sum_by-IsPermutation _ items _ same; reach = every_order }
