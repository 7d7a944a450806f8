-- The ids of tasks after a change and a removal.
use Rattle.std.proofs.Common.{◌≡◌, ℕ, true, false, cond, eqb, List, [], ◌∷◌, map, refl, ap, ◌∙◌}
use Rattle.keyed.specs.Keyed.{change, without}
use Rattle.deterministic.specs.Model.{Task, id_of}

module _ (f : Task → Task) (same : (t : Task) → (f t).id ≡ t.id) where
  -- a change that leaves ids leaves the list of ids
  pub change_ids : (i : ℕ) (ts : List Task) → map id_of (change id_of f i ts) ≡ map id_of ts
  change_ids i [] = refl
  change_ids i (t ∷ ts) =
      let rest = change_ids i ts in
      elim (eqb t.id i) as (λ b. id_of (cond b (f t) t) ∷ map id_of (change id_of f i ts) ≡ t.id ∷ map id_of ts) [
        | true ↦ ap (λ (l : List ℕ). (f t).id ∷ l) rest ∙ ap (λ (j : ℕ). j ∷ map id_of ts) (same t)
        | false ↦ ap (λ (l : List ℕ). t.id ∷ l) rest
      ]

pub without_ids : (i : ℕ) (ts : List Task) → map id_of (without id_of i ts) ≡ without (λ k. k) i (map id_of ts)
without_ids i [] = refl
without_ids i (t ∷ ts) =
    let rest = without_ids i ts in
    elim (eqb t.id i) as (λ b. map id_of (cond b (without id_of i ts) (t ∷ without id_of i ts)) ≡ cond b (without (λ k. k) i (map id_of ts)) (t.id ∷ without (λ k. k) i (map id_of ts))) [
      | true ↦ rest
      | false ↦ ap (λ (l : List ℕ). t.id ∷ l) rest
    ]
