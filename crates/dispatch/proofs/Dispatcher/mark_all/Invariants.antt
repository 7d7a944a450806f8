-- What is left to mark leads where all lead, and each mark spends one of those not marked.
use Rattle.std.proofs.Common.{◌≡◌, drop}
use Rattle.deterministic.specs.Model.{Model}
use Rattle.deterministic.specs.Moves.{after_doing}
use Rattle.deterministic.specs.Ending.{markings, others}
use Rattle.dispatch.specs.Seen.{seen, MarksFit, SpendsByMarks}
use Rattle.dispatch.proofs.Dispatcher.mark_all.Given as goal

abbrev pub invariant-loop-id : goal.invariant-loop-id
invariant-loop-id l =
    ((m : Model) → after_doing (markings (others l.spared (drop l.id-index l.ids))) (seen l.self l.counts m) ≡ after_doing (markings (others l.spared l.ids)) (seen l.initial.self l.initial.counts m))
    × MarksFit l.self
    × SpendsByMarks l.initial.self l.self
