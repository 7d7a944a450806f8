-- The digest after one event more.
use Rattle.std.proofs.Common.{◌≡◌, ℕ, List, [], ◌∷◌, ◌++◌, sym, ap, ◌∙◌}
use Rattle.std.proofs.lemmas.List.Sums.{fold_push}
use Rattle.auditor.specs.Events.{Event, digest_after, digest_of, no_digest}

pub told_more : (before after : List ℕ) (event : Event) → after ≡ digest_after before event → (events : List Event) → before ≡ digest_of events → after ≡ digest_of (events ++ event ∷ [])
told_more before after event is events told =
    is ∙ ap (λ (digest : List ℕ). digest_after digest event) told ∙ sym (fold_push digest_after no_digest events event)
