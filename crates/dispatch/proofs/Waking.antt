-- Ids that are queued one after another: what is left of them leads where all lead.
use Rattle.std.proofs.Common.{◌≡◌, ℕ, ◌+◌, ◌<◌, ◌≤◌, List, length, get_or, drop, sym, ap, ◌∙◌}
use Rattle.std.proofs.lemmas.List.{at_drop_more, at_drop_all}
use Rattle.entry.specs.declared.Entry.TheVariants as entry
use Rattle.reasons.specs.declared.cause.Cause.{Cause}
use Rattle.deterministic.specs.Model.{Model, queued}
use Rattle.deterministic.specs.Moves.{moves, wakes}

module _ (cause : Cause) (ids : List ℕ) (i : ℕ) where
  -- one id more is queued
  pub wakes_more : (d : ℕ) (m n : Model) → i < length ids → n ≡ queued (get_or ids i d) (entry.Wake (get_or ids i d) cause) m →
      moves (wakes cause (drop (i + 1) ids)) n ≡ moves (wakes cause (drop i ids)) m
  wakes_more d m n within is =
      ap (moves (wakes cause (drop (i + 1) ids))) is ∙ sym (at_drop_more (λ (l : List ℕ). moves (wakes cause l) m) ids i d within)

  -- all are queued
  pub wakes_all : (m : Model) → length ids ≤ i → m ≡ moves (wakes cause (drop i ids)) m
  wakes_all m past = sym (at_drop_all (λ (l : List ℕ). moves (wakes cause l) m) ids i past)
