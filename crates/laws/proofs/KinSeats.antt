-- The registry and the tree as they were told, after a task is seated and registered, and after a cascade.
use Rattle.std.proofs.Common.{◌≡◌, ℕ, ◌<◌, true, false, cond, eqb, ◌⊎◌, List, [], ◌∷◌, ◌++◌, Some, None, sym, refl, ap, ◌∙◌, subst, inl, inr, arith}
use Rattle.std.proofs.lemmas.Bool.{cases_Bool, cases_eq, both_ways, eq-eqb, ne_eqb, eqb-true}
use Rattle.keyed.specs.Keyed.{find}
use Rattle.keyed.specs.Choices.{holds}
use Rattle.keyed.specs.Members.{In, times}
use Rattle.keyed.proofs.Orders.{ordered_push}
use Rattle.keyed.proofs.Finds.{on, same_some, some_not_none, unmapped, find_key, find_change, find_change_here, find_change_other, find_push, find_push_old, find_push_new}
use Rattle.nodes.specs.declared.Node.{Node}
use Rattle.nodes.specs.Node.{serial_of, taken}
use Rattle.lineage.specs.Family.{Family, changed}
use Rattle.lineage.specs.Cascade.{cascaded}
use Rattle.supervision.specs.Sound.{Lives}
use Rattle.supervision.specs.Laws as laws
use Rattle.supervision.proofs.Newborn.{lives_low}
use Rattle.supervision.proofs.Whole.{Whole}
use Rattle.supervision.proofs.Counting.{cascade_law, whole_cascaded}
use Rattle.supervision.proofs.Ages.{next_cascaded}
use Rattle.deterministic.specs.Model.{Task, Registry, id_of, new_task, with_task}
use Rattle.deterministic.specs.Below.{Tiding, planted, seated, marked, ended}
use Rattle.laws.proofs.KinTold.{whom, where_to, told_parts, told_before, told_still, told_last}
use Rattle.laws.proofs.KinTrees.{thinned_cascaded, sits_cascaded}
use Rattle.laws.proofs.KinWatched.{TreeTold, Listed, RegistryTold, Watched}
use Rattle.laws.proofs.KinGrowth.{none_or_some, tree_thinned}
use Rattle.laws.proofs.KinTasks.{listed_low}

-- SEATS. a node after the one at c was taken by a task, and as it was
record Before (i c : ℕ) (F : Family) (s : ℕ) (n' : Node) : Type 0 where
  pub node : Node
  pub lived : Lives F s node
  pub parent : n'.parent ≡ node.parent
  pub flag : n'.aborted ≡ node.aborted
  pub either : ((s ≡ c) × (n' ≡ taken i node)) ⊎ ((s ≡ c → ⊥) × (n' ≡ node))

before : (i c : ℕ) (F : Family) (s : ℕ) (n' : Node) → Lives (changed (taken i) c F) s n' → Before i c F s n'
before i c F s n' h =
    let u = unmapped (on serial_of c (taken i)) (find serial_of s F.nodes) n' (sym (find_change serial_of (taken i) (λ _. refl) c s F.nodes) ∙ h) in
    let serial = find_key serial_of s F.nodes u.0 u.1 in
    elim (cases_eq s c) [
      | inl e ↦
          let is : n' ≡ taken i u.0 = u.2 ∙ ap (λ b. cond b (taken i u.0) u.0) (eq-eqb (serial_of u.0) c (serial ∙ e)) in
          record { node = u.0; lived = u.1; parent = ap (λ (x : Node). x.parent) is; flag = ap (λ (x : Node). x.aborted) is; either = inl (e, is) }
      | inr e ↦
          let is : n' ≡ u.0 = u.2 ∙ ap (λ b. cond b (taken i u.0) u.0) (ne_eqb (serial_of u.0) c (λ z. e (sym serial ∙ z))) in
          record { node = u.0; lived = u.1; parent = ap (λ (x : Node). x.parent) is; flag = ap (λ (x : Node). x.aborted) is; either = inr (e, is) }
    ]

-- the next task is seated at the node of an open context that is not aborted, and registered
module _ (told : List Tiding) (r : Registry) (F : Family) (c k : ℕ) (label : List ℕ) (a : Node) (stands : Lives F c a) (held : a.owner ≡ Some k) (quiet : a.aborted ≡ false) (whole : Whole (changed (taken r.next) c F)) (ok : Watched told [] r F) where
  abbrev i : ℕ
  i = r.next

  abbrev G : Family
  G = changed (taken i) c F

  abbrev x : Tiding
  x = seated i c

  abbrev told' : List Tiding
  told' = told ++ x ∷ []

  abbrev new : Task
  new = new_task i label (Some c)

  abbrev r' : Registry
  r' = with_task i label (Some c) r

  told_seat : (j s : ℕ) → j ≡ i → s ≡ c → In (seated j s) told'
  told_seat j s p q = subst (λ z. In (seated z s) told') (sym p) (subst (λ z. In (seated i z) told') (sym q) (told_last x told))

  seated_tree : TreeTold told' G
  seated_tree = record {
    whole = whole;
    plants = λ s p h.
        let old = told_before (planted s p) x told refl h in
        ((ok.tree.plants s p old).0, λ n l q. (let b = before i c F s n l in b.parent ∙ (ok.tree.plants s p old).1 b.node b.lived (sym b.flag ∙ q)));
    parents = λ s p n l h. let b = before i c F s n l in told_still (planted s p) x told (ok.tree.parents s p b.node b.lived (sym b.parent ∙ h));
    origins = λ s n l.
        let b = before i c F s n l in
        elim (ok.tree.origins s b.node b.lived) [ inl z ↦ inl z | inr w ↦ inr (w.0, told_still (planted s w.0) x told w.1) ];
    seats = λ j s n l h.
        let b = before i c F s n l in
        elim b.either [
          | inl e ↦ told_seat j s (same_some h (ap (λ (y : Node). y.task) e.1)) e.0
          | inr e ↦ told_still (seated j s) x told (ok.tree.seats j s b.node b.lived (ap (λ (y : Node). y.task) (sym e.1) ∙ h))
        ];
    places = λ j s h. elim (told_parts (seated j s) x told h) [
      | inl old ↦ ok.tree.places j s old
      | inr e ↦ subst (λ z. z < F.next) (sym (ap where_to e)) (lives_low F ok.tree.whole.solid.frame c a stands)
    ];
    empty = λ o s n l h.
        let b = before i c F s n l in
        elim b.either [
          | inl e ↦ absurd (some_not_none (ap (λ (y : Node). y.owner) e.1) h)
          | inr e ↦ ap (λ (y : Node). y.task) e.1 ∙ ok.tree.empty o s b.node b.lived (ap (λ (y : Node). y.owner) (sym e.1) ∙ h)
        ];
  }

  -- a task of the new registry is the new one, or was in the old one
  listed_parts : (j : ℕ) (t : Task) → Listed r' j t → Listed r j t ⊎ ((t ≡ new) × (i ≡ j))
  listed_parts j t h = find_push id_of j r.tasks new t h

  -- an id that was given out is not the new one
  listed_old : (j : ℕ) (t : Task) → j < i → Listed r' j t → Listed r j t
  listed_old j t low h = elim (listed_parts j t h) [ inl o ↦ o | inr e ↦ absurd (omega (arith, low, e.1)) ]

  -- the new id is that of the new task
  listed_new : (j : ℕ) (t : Task) → j ≡ i → Listed r' j t → t ≡ new
  listed_new j t e h = elim (listed_parts j t h) [ inl o ↦ absurd (omega (arith, listed_low told r ok.registry j t o, e)) | inr n ↦ n.0 ]

  none_old : (j : ℕ) → find id_of j r'.tasks ≡ None → find id_of j r.tasks ≡ None
  none_old j h = elim (none_or_some (find id_of j r.tasks)) [ inl e ↦ e | inr w ↦ absurd (some_not_none h (find_push_old id_of j r.tasks new w.0 w.1)) ]

  seated_registry : RegistryTold told' r'
  seated_registry = record {
    order = ordered_push id_of 0 i r.tasks new ok.registry.order refl;
    marks = λ j h.
        let old = told_before (marked j) x told refl h in
        let low = (ok.registry.marks j old).0 in
        (omega (arith, low), λ t is. (ok.registry.marks j old).1 t (listed_old j t low is));
    ends = λ j h.
        let old = told_before (ended j) x told refl h in
        let low = (ok.registry.ends j old).0 in
        (omega (arith, low), elim (none_or_some (find id_of j r'.tasks)) [ inl e ↦ e | inr w ↦ absurd (some_not_none (ok.registry.ends j old).1 (listed_old j w.0 low w.1)) ]);
    homes = λ j s h. elim (told_parts (seated j s) x told h) [
      | inl old ↦
          let low = (ok.registry.homes j s old).0 in
          (omega (arith, low), λ t is. (ok.registry.homes j s old).1 t (listed_old j t low is))
      | inr e ↦ (omega (arith, ap whom e), λ t is. ap (λ (y : Task). y.node) (listed_new j t (ap whom e) is) ∙ ap (λ z. Some z) (sym (ap where_to e)))
    ];
    seats = λ j t is. elim (listed_parts j t is) [
      | inl o ↦ elim (ok.registry.seats j t o) [ inl z ↦ inl z | inr w ↦ inr (record { node = w.node; home = w.home; is_told = told_still (seated j w.node) x told w.is_told }) ]
      | inr e ↦ inr (record { node = c; home = ap (λ (y : Task). y.node) e.0; is_told = told_seat j c (sym e.1) refl })
    ];
    marked_truly = λ j t is m. elim (listed_parts j t is) [
      | inl o ↦ told_still (marked j) x told (ok.registry.marked_truly j t o m)
      | inr e ↦ absurd (both_ways t.marked (ap (λ (y : Task). y.marked) e.0) m)
    ];
    ended_truly = λ j low gone. elim (cases_eq j i) [
      | inl e ↦ absurd (some_not_none gone (find_push_new id_of j r.tasks new (none_old j gone) (sym e)))
      | inr e ↦ told_still (ended j) x told (ok.registry.ended_truly j (omega (arith, low, e)) (none_old j gone))
    ];
  }

  pub watched_seated : Watched (told ++ seated r.next c ∷ []) [] (with_task r.next label (Some c) r) (changed (taken r.next) c F)
  watched_seated = record {
    tree = seated_tree;
    registry = seated_registry;
    sits = λ j s t h is. elim (told_parts (seated j s) x told h) [
      | inl old ↦
          let y = ok.sits j s t old (listed_old j t (ok.registry.homes j s old).0 is) in
          let apart : s ≡ c → ⊥ = λ e. some_not_none (ok.tree.empty k c a stands held) (ap (λ (n : Node). n.task) (same_some stands (subst (λ z. Lives F z y.is) e y.lives)) ∙ y.task) in
          record { is = y.is; lives = find_change_other serial_of (taken i) (λ _. refl) c s F.nodes apart ∙ y.lives; task = y.task; spared = y.spared }
      | inr e ↦ record {
        is = taken i a;
        lives = subst (λ z. Lives G z (taken i a)) (sym (ap where_to e)) (find_change_here serial_of (taken i) (λ _. refl) c F.nodes a stands);
        task = ap (λ z. Some z) (sym (ap whom e));
        spared = λ z. absurd (both_ways a.aborted quiet z);
      }
    ];
    falls = λ j s n e h l.
        let end = told_before (ended j) x told refl e in
        let b = before i c F s n l in
        elim (told_parts (seated j s) x told h) [
          | inl old ↦ b.flag ∙ ok.falls j s b.node end old b.lived
          | inr z ↦ absurd (omega (arith, (ok.registry.ends j end).0, ap whom z))
        ];
  }

-- THE CASCADE. what is counted in a list stands there
times_in : (k : ℕ) (xs : List ℕ) → 0 < times k xs → In k xs
times_in k [] h = absurd (omega arith)
times_in k (y ∷ ys) h = elim (cases_Bool (eqb y k)) [
  | inl e ↦ inl (sym (eqb-true y k e))
  | inr e ↦ inr (times_in k ys (let g = rw e at h in omega (arith, g)))
]

-- all below a node is aborted, and the tasks that sit there are late
pub watched_felled : (told : List Tiding) (late : List ℕ) (r : Registry) (F : Family) (top : ℕ) → ((j : ℕ) → In j (cascaded top F).1 → In j late) → Watched told [] r F → Watched told late r (cascaded top F).0
watched_felled told late r F top all ok =
    let law = cascade_law top F ok.tree.whole in
    let thin = thinned_cascaded top F in
    record {
      tree = tree_thinned told F (cascaded top F).0 ok.tree (whole_cascaded top F ok.tree.whole) (next_cascaded top F) thin;
      registry = ok.registry;
      sits = λ i s t h is.
          let x = ok.sits i s t h is in
          let y = sits_cascaded i s top F (record { is = x.is; lives = x.lives; task = x.task }) in
          let before_it : x.is.aborted ≡ true → (t.marked ≡ true) ⊎ In i late = λ a. elim (x.spared a) [ inl m ↦ inl m | inr z ↦ absurd z ] in
          record {
            is = y.is;
            lives = y.lives;
            task = y.task;
            spared = λ a.
                let o = law.only_under s y.is y.lives a in
                elim (cases_Bool x.is.aborted) [
                  | inl b ↦ before_it b
                  | inr q ↦ elim o.2 [
                    | inl b ↦ before_it (ap (λ (n : Node). n.aborted) (same_some x.lives o.1) ∙ b)
                    | inr u ↦
                        let seat : holds i x.is.task ≡ true = ap (holds i) x.task ∙ eq-eqb i i refl in
                        inr (all i (times_in i (cascaded top F).1 (omega (arith, law.gives i s x.is u x.lives q seat))))
                  ]
                ];
          };
      falls = λ i s n e h l. let c = thin s n l in c.flags (ok.falls i s c.was e h c.lived);
    }

-- its top is aborted
pub top_felled : (top : ℕ) (F : Family) → Whole F → (n : Node) → Lives (cascaded top F).0 top n → n.aborted ≡ true
top_felled top F whole n l = (cascade_law top F whole).all_under top n (laws.itself (thinned_cascaded top F top n l).lived) l
