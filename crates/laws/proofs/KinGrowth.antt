-- The tree as it was told, after each change of it.
use Rattle.std.proofs.Common.{◌≡◌, ℕ, ◌<◌, false, eqb, ◌⊎◌, List, [], ◌∷◌, ◌++◌, Some, None, Option, sym, refl, ap, ◌∙◌, subst, inl, inr, arith}
use Rattle.std.proofs.lemmas.Bool.{cases_Bool, both_ways}
use Rattle.keyed.specs.Members.{In}
use Rattle.keyed.proofs.Finds.{some_not_none}
use Rattle.nodes.specs.declared.Node.{Node}
use Rattle.lineage.specs.Family.{Family}
use Rattle.supervision.specs.Sound.{Lives}
use Rattle.supervision.proofs.Newborn.{lives_low}
use Rattle.supervision.proofs.Whole.{Whole}
use Rattle.deterministic.specs.Model.{Registry}
use Rattle.deterministic.specs.Below.{Tiding, planted, seated, marked, ended, called}
use Rattle.laws.proofs.KinTold.{kind, whom, where_to, told_parts, told_before, told_still, told_last}
use Rattle.laws.proofs.KinTrees.{Carried, Thinned, SeatKept, Gained}
use Rattle.laws.proofs.KinWatched.{TreeTold, RegistryTold, Watched}

-- nothing or something
pub none_or_some : {X : Type 0} (o : Option X) → (o ≡ None) ⊎ ((x : X) × (o ≡ Some x))
none_or_some None = inl refl
none_or_some (Some x) = inr (x, refl)

module _ (F : Family) (s : ℕ) (n' : Node) (c : Carried F s n') where
  -- what is not aborted was not
  was_unaborted : n'.aborted ≡ false → c.was.aborted ≡ false
  was_unaborted q = elim (cases_Bool c.was.aborted) [ inl a ↦ absurd (both_ways n'.aborted q (c.flags a)) | inr e ↦ e ]

  -- where nobody sat nobody sits
  still_empty : c.was.task ≡ None → n'.task ≡ None
  still_empty e = elim (none_or_some n'.task) [ inl h ↦ h | inr h ↦ absurd (some_not_none e (c.tasks h.0 h.1)) ]

-- no node comes
pub tree_thinned : (told : List Tiding) (F G : Family) → TreeTold told F → Whole G → G.next ≡ F.next → Thinned F G → TreeTold told G
tree_thinned told F G ok whole next thin = record {
  whole = whole;
  plants = λ s p h. (
    omega (arith, next, (ok.plants s p h).0),
    λ n l q. (let c = thin s n l in c.parents ∙ (ok.plants s p h).1 c.was c.lived (was_unaborted F s n c q)),
  );
  parents = λ s p n l h. let c = thin s n l in ok.parents s p c.was c.lived (sym c.parents ∙ h);
  origins = λ s n l. let c = thin s n l in ok.origins s c.was c.lived;
  seats = λ i s n l h. let c = thin s n l in ok.seats i s c.was c.lived (c.tasks i h);
  places = λ i s h. omega (arith, next, ok.places i s h);
  empty = λ k s n l h. let c = thin s n l in still_empty F s n c (ok.empty k s c.was c.lived (c.owners k h));
}

-- no node comes, and every task keeps its seat
pub watched_thinned : (told : List Tiding) (late : List ℕ) (r : Registry) (F G : Family) → Watched told late r F → Whole G → G.next ≡ F.next → Thinned F G → ((i : ℕ) → SeatKept i F G) → Watched told late r G
watched_thinned told late r F G ok whole next thin seats = record {
  tree = tree_thinned told F G ok.tree whole next thin;
  registry = ok.registry;
  sits = λ i s t h is.
      let x = ok.sits i s t h is in
      let y = seats i s x.is x.lives x.task in
      record { is = y.is; lives = y.lives; task = y.task; spared = λ a. x.spared (sym y.flag ∙ a) };
  falls = λ i s n e h l. let c = thin s n l in c.flags (ok.falls i s c.was e h c.lived);
}

-- a tiding that plants no node and seats no task
pub tree_more : (told : List Tiding) (F : Family) (x : Tiding) → eqb 0 (kind x) ≡ false → eqb 1 (kind x) ≡ false → TreeTold told F → TreeTold (told ++ x ∷ []) F
tree_more told F x plant seat ok = record {
  whole = ok.whole;
  plants = λ s p h. ok.plants s p (told_before (planted s p) x told plant h);
  parents = λ s p n l h. told_still (planted s p) x told (ok.parents s p n l h);
  origins = λ s n l. elim (ok.origins s n l) [ inl z ↦ inl z | inr w ↦ inr (w.0, told_still (planted s w.0) x told w.1) ];
  seats = λ i s n l h. told_still (seated i s) x told (ok.seats i s n l h);
  places = λ i s h. ok.places i s (told_before (seated i s) x told seat h);
  empty = ok.empty;
}

-- a tiding of no task that is seated, marked or ended
pub registry_more : (told : List Tiding) (r : Registry) (x : Tiding) → eqb 1 (kind x) ≡ false → eqb 2 (kind x) ≡ false → eqb 3 (kind x) ≡ false → RegistryTold told r → RegistryTold (told ++ x ∷ []) r
registry_more told r x seat mark end ok = record {
  order = ok.order;
  marks = λ i h. ok.marks i (told_before (marked i) x told mark h);
  ends = λ i h. ok.ends i (told_before (ended i) x told end h);
  homes = λ i s h. ok.homes i s (told_before (seated i s) x told seat h);
  seats = λ i t is. elim (ok.seats i t is) [ inl z ↦ inl z | inr w ↦ inr (record { node = w.node; home = w.home; is_told = told_still (seated i w.node) x told w.is_told }) ];
  marked_truly = λ i t is m. told_still (marked i) x told (ok.marked_truly i t is m);
  ended_truly = λ i low gone. told_still (ended i) x told (ok.ended_truly i low gone);
}

-- a body's call changes nothing
pub watched_called : (told : List Tiding) (late : List ℕ) (r : Registry) (F : Family) (j : ℕ) → Watched told late r F → Watched (told ++ called j ∷ []) late r F
watched_called told late r F j ok = record {
  tree = tree_more told F (called j) refl refl ok.tree;
  registry = registry_more told r (called j) refl refl refl ok.registry;
  sits = λ i s t h is. ok.sits i s t (told_before (seated i s) (called j) told refl h) is;
  falls = λ i s n e h l. ok.falls i s n (told_before (ended i) (called j) told refl e) (told_before (seated i s) (called j) told refl h) l;
}

-- one node comes, under c
module _ (told : List Tiding) (c : ℕ) (F G : Family) (ok : TreeTold told F) (whole : Whole G) (gain : Gained c F G) where
  abbrev birth : Tiding
  birth = planted F.next c

  low : (s : ℕ) (n : Node) → Lives F s n → s < F.next
  low s n l = lives_low F ok.whole.solid.frame s n l

  gained_plants : (s p : ℕ) → In (planted s p) (told ++ birth ∷ []) → (s < G.next) × ((n : Node) → Lives G s n → n.aborted ≡ false → n.parent ≡ Some p)
  gained_plants s p h = elim (told_parts (planted s p) birth told h) [
    | inl old ↦ (
      omega (arith, gain.next, (ok.plants s p old).0),
      λ n l q. elim (gain.old s n l) [
        | inl k ↦ k.parents ∙ (ok.plants s p old).1 k.was k.lived (was_unaborted F s n k q)
        | inr e ↦ absurd (omega (arith, e.1, (ok.plants s p old).0))
      ],
    )
    | inr new ↦
        let serial : s ≡ F.next = ap whom new in
        let parent : p ≡ c = ap where_to new in (
          omega (arith, gain.next, serial),
          λ n l q. elim (gain.old s n l) [
            | inl k ↦ absurd (omega (arith, serial, low s k.was k.lived))
            | inr e ↦ ap (λ (x : Node). x.parent) e.0 ∙ (gain.newcomer.under (ap (λ (x : Node). x.aborted) (sym e.0) ∙ q) ∙ ap (λ z. Some z) (sym parent))
          ],
        )
  ]

  told_birth : (s p : ℕ) → s ≡ F.next → p ≡ c → In (planted s p) (told ++ birth ∷ [])
  told_birth s p a b = subst (λ z. In (planted z p) (told ++ birth ∷ [])) (sym a) (subst (λ z. In (planted F.next z) (told ++ birth ∷ [])) (sym b) (told_last birth told))

  pub tree_gained : TreeTold (told ++ planted F.next c ∷ []) G
  tree_gained = record {
    whole = whole;
    plants = gained_plants;
    parents = λ s p n l h. elim (gain.old s n l) [
      | inl k ↦ told_still (planted s p) birth told (ok.parents s p k.was k.lived (sym k.parents ∙ h))
      | inr e ↦ told_birth s p e.1 (gain.newcomer.only p (ap (λ (x : Node). x.parent) (sym e.0) ∙ h))
    ];
    origins = λ s n l. elim (gain.old s n l) [
      | inl k ↦ elim (ok.origins s k.was k.lived) [ inl z ↦ inl z | inr w ↦ inr (w.0, told_still (planted s w.0) birth told w.1) ]
      | inr e ↦ inr (c, told_birth s c e.1 refl)
    ];
    seats = λ i s n l h. elim (gain.old s n l) [
      | inl k ↦ told_still (seated i s) birth told (ok.seats i s k.was k.lived (k.tasks i h))
      | inr e ↦ absurd (some_not_none gain.newcomer.empty (ap (λ (x : Node). x.task) (sym e.0) ∙ h))
    ];
    places = λ i s h. omega (arith, gain.next, ok.places i s (told_before (seated i s) birth told refl h));
    empty = λ k s n l h. elim (gain.old s n l) [
      | inl o ↦ still_empty F s n o (ok.empty k s o.was o.lived (o.owners k h))
      | inr e ↦ ap (λ (x : Node). x.task) e.0 ∙ gain.newcomer.empty
    ];
  }

pub watched_gained : (told : List Tiding) (late : List ℕ) (r : Registry) (c : ℕ) (F G : Family) → Watched told late r F → Whole G → Gained c F G → Watched (told ++ planted F.next c ∷ []) late r G
watched_gained told late r c F G ok whole gain =
    let birth : Tiding = planted F.next c in
    record {
      tree = tree_gained told c F G ok.tree whole gain;
      registry = registry_more told r birth refl refl refl ok.registry;
      sits = λ i s t h is.
          let x = ok.sits i s t (told_before (seated i s) birth told refl h) is in
          let y = gain.seats i s x.is x.lives x.task in
          record { is = y.is; lives = y.lives; task = y.task; spared = λ a. x.spared (sym y.flag ∙ a) };
      falls = λ i s n e h l.
          let seat = told_before (seated i s) birth told refl h in
          elim (gain.old s n l) [
            | inl k ↦ k.flags (ok.falls i s k.was (told_before (ended i) birth told refl e) seat k.lived)
            | inr z ↦ absurd (omega (arith, z.1, ok.tree.places i s seat))
          ];
    }
