-- What is left to queue leads where all lead; an entry and a place are spent for each id.
use Rattle.std.proofs.Common.{◌≡◌, drop}
use Rattle.deterministic.specs.declared.counts.Counts.{Counts}
use Rattle.deterministic.specs.Model.{Model}
use Rattle.deterministic.specs.Moves.{moves, wakes}
use Rattle.dispatch.specs.Seen.{seen, Spends}
use Rattle.dispatch.proofs.Dispatcher.queue_all.Given as goal

abbrev pub invariant-loop-id : goal.invariant-loop-id
invariant-loop-id l =
    ((c : Counts) (m : Model) → moves (wakes l.cause (drop l.id-index l.ids)) (seen l.self c m) ≡ moves (wakes l.cause l.ids) (seen l.initial.self c m))
    × Spends l.initial.self l.self l.id-index l.id-index
