-- The walk of a cascade, turn by turn.
use Rattle.std.proofs.Common.{◌≡◌, ℕ, zero, suc, ◌+◌, List, [], ◌∷◌, ◌++◌, reverse, length, sym, refl, ap, ◌∙◌, add-one}
use Rattle.std.proofs.lemmas.List.{append-nil, append_assoc, reverse-append}
use Rattle.lineage.specs.Family.{Family}
use Rattle.lineage.specs.Cascade.{step, walk, cascaded}

-- where no node waits, the walk is over
pub walk_end : (k : ℕ) (F : Family) → walk k [] F ≡ (F, [])
walk_end zero F = refl
walk_end (suc k) F = refl

-- what is still to be done gives the whole: the family, and the marks after those so far; what
-- waits has the next one last
pub record Going (k : ℕ) (waiting : List ℕ) (F : Family) (marks : List ℕ) (whole : Family × List ℕ) : Type 0 where
  pub ends : (walk k (reverse waiting) F).0 ≡ whole.0
  pub marks_all : marks ++ (walk k (reverse waiting) F).1 ≡ whole.1

pub going_start : (k : ℕ) (F : Family) (s : ℕ) (waiting marks : List ℕ) → k ≡ 1 + length F.links → waiting ≡ s ∷ [] → marks ≡ [] → Going k waiting F marks (cascaded s F)
going_start k F s waiting marks e is none = rw (e, is, none) (record { ends = refl; marks_all = refl })

module _ (k k' : ℕ) (p q p' : List ℕ) (F G : Family) (s : ℕ) (marks marks' : List ℕ) (whole : Family × List ℕ) where
  pub going_more : Going k p F marks whole → k ≡ k' + 1 → p ≡ q ++ s ∷ [] → p' ≡ q ++ (step s F).below → G ≡ (step s F).after → marks' ≡ marks ++ (step s F).marks → Going k' p' G marks' whole
  going_more so_far falls popped waits after marked =
      let st : reverse p ≡ s ∷ reverse q = ap reverse popped ∙ reverse-append q (s ∷ []) in
      let st' : reverse p' ≡ reverse (step s F).below ++ reverse q = ap reverse waits ∙ reverse-append q (step s F).below in
      let one : walk k (reverse p) F ≡ walk (suc k') (s ∷ reverse q) F = ap (λ n. walk n (reverse p) F) (falls ∙ add-one k') ∙ ap (λ (l : List ℕ). walk (suc k') l F) st in
      let two : walk k' (reverse p') G ≡ walk k' (reverse (step s F).below ++ reverse q) (step s F).after = ap (λ (l : List ℕ). walk k' l G) st' ∙ ap (walk k' (reverse (step s F).below ++ reverse q)) after in
      record {
        ends = ap (λ (w : Family × List ℕ). w.0) two ∙ (sym (ap (λ (w : Family × List ℕ). w.0) one) ∙ so_far.ends);
        marks_all =
            ap (λ (l : List ℕ). l ++ (walk k' (reverse p') G).1) marked
            ∙ (append_assoc marks (step s F).marks (walk k' (reverse p') G).1
            ∙ (ap (λ (w : Family × List ℕ). marks ++ ((step s F).marks ++ w.1)) two
            ∙ (sym (ap (λ (w : Family × List ℕ). marks ++ w.1) one) ∙ so_far.marks_all)));
      }

pub going_end : (k : ℕ) (p : List ℕ) (F : Family) (marks : List ℕ) (whole : Family × List ℕ) → Going k p F marks whole → p ≡ [] → (F ≡ whole.0) × (marks ≡ whole.1)
going_end k p F marks whole so_far none =
    let e : walk k (reverse p) F ≡ (F, []) = ap (λ (l : List ℕ). walk k (reverse l) F) none ∙ walk_end k F in
    (sym (ap (λ (w : Family × List ℕ). w.0) e) ∙ so_far.ends, sym (append-nil marks) ∙ (sym (ap (λ (w : Family × List ℕ). marks ++ w.1) e) ∙ so_far.marks_all))
