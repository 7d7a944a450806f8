-- The registry as it was told, after each change of it: a task is marked, pends, is seated and registered, or ends.
use Rattle.std.proofs.Common.{◌≡◌, ℕ, ◌<◌, true, cond, ◌⊎◌, List, [], ◌∷◌, ◌++◌, None, Option, sym, refl, ap, ◌∙◌, subst, inl, inr, arith}
use Rattle.std.proofs.lemmas.Bool.{cases_eq, eq-eqb, ne_eqb}
use Rattle.std.specs.Option.{option_map}
use Rattle.keyed.specs.Keyed.{find}
use Rattle.keyed.specs.Members.{In}
use Rattle.keyed.proofs.Orders.{ordered_change, ordered_without, find_within}
use Rattle.keyed.proofs.Finds.{on, some_not_none, unmapped, find_key, find_change, find_without, find_without_here, find_without_other}
use Rattle.nodes.specs.declared.Node.{Node}
use Rattle.lineage.specs.Family.{Family}
use Rattle.supervision.specs.Sound.{Lives}
use Rattle.supervision.specs.Calls.{left}
use Rattle.supervision.proofs.Whole.{whole_left}
use Rattle.supervision.proofs.Ages.{next_settled}
use Rattle.deterministic.specs.Model as model
use Rattle.deterministic.specs.Model.{Task, Registry, id_of, with_changed, without_task, pended}
use Rattle.deterministic.specs.Below.{Tiding, seated, marked, ended}
use Rattle.laws.proofs.KinTold.{whom, told_parts, told_before, told_still, told_last}
use Rattle.laws.proofs.KinTrees.{all_vacated, thinned_left, seat_left}
use Rattle.laws.proofs.KinWatched.{Listed, RegistryTold, Watched}
use Rattle.laws.proofs.KinGrowth.{none_or_some, tree_more, tree_thinned}

-- a registered task's id was given out
pub listed_low : (told : List Tiding) (r : Registry) → RegistryTold told r → (i : ℕ) (t : Task) → Listed r i t → i < r.next
listed_low told r ok i t is = (find_within id_of 0 r.next i r.tasks t ok.order is).1

-- a task after the one of the id k was changed, and as it was
pub record Was (f : Task → Task) (k : ℕ) (r : Registry) (i : ℕ) (t' : Task) : Type 0 where
  pub task : Task
  pub listed : Listed r i task
  pub either : ((i ≡ k) × (t' ≡ f task)) ⊎ ((i ≡ k → ⊥) × (t' ≡ task))

pub was : (f : Task → Task) → ((t : Task) → (f t).id ≡ t.id) → (k : ℕ) (r : Registry) (i : ℕ) (t' : Task) → Listed (with_changed f k r) i t' → Was f k r i t'
was f ids k r i t' h =
    let u = unmapped (on id_of k f) (find id_of i r.tasks) t' (sym (find_change id_of f ids k i r.tasks) ∙ h) in
    let id = find_key id_of i r.tasks u.0 u.1 in
    elim (cases_eq i k) [
      | inl e ↦ record { task = u.0; listed = u.1; either = inl (e, u.2 ∙ ap (λ b. cond b (f u.0) u.0) (eq-eqb (id_of u.0) k (id ∙ e))) }
      | inr e ↦ record { task = u.0; listed = u.1; either = inr (e, u.2 ∙ ap (λ b. cond b (f u.0) u.0) (ne_eqb (id_of u.0) k (λ z. e (sym id ∙ z)))) }
    ]

-- a change finds nothing new
change_none : (f : Task → Task) → ((t : Task) → (f t).id ≡ t.id) → (k : ℕ) (r : Registry) (i : ℕ) → find id_of i (with_changed f k r).tasks ≡ None → find id_of i r.tasks ≡ None
change_none f ids k r i h = elim (none_or_some (find id_of i r.tasks)) [
  | inl e ↦ e
  | inr w ↦ absurd (some_not_none h (find_change id_of f ids k i r.tasks ∙ ap (λ (o : Option Task). option_map (on id_of k f) o) w.1))
]

-- and loses nothing
none_change : (f : Task → Task) → ((t : Task) → (f t).id ≡ t.id) → (k : ℕ) (r : Registry) (i : ℕ) → find id_of i r.tasks ≡ None → find id_of i (with_changed f k r).tasks ≡ None
none_change f ids k r i h = find_change id_of f ids k i r.tasks ∙ ap (λ (o : Option Task). option_map (on id_of k f) o) h

-- PENDING. a task's body has come to pending
pub watched_pended : (told : List Tiding) (late : List ℕ) (r : Registry) (F : Family) (k : ℕ) → Watched told late r F → Watched told late (with_changed pended k r) F
watched_pended told late r F k ok =
    let ids : (t : Task) → (pended t).id ≡ t.id = λ t. refl in
    let flag : (i : ℕ) (t' : Task) (w : Was pended k r i t') → t'.marked ≡ w.task.marked = λ i t' w. elim w.either [ inl e ↦ ap (λ (t : Task). t.marked) e.1 | inr e ↦ ap (λ (t : Task). t.marked) e.1 ] in
    let home : (i : ℕ) (t' : Task) (w : Was pended k r i t') → t'.node ≡ w.task.node = λ i t' w. elim w.either [ inl e ↦ ap (λ (t : Task). t.node) e.1 | inr e ↦ ap (λ (t : Task). t.node) e.1 ] in
    record {
      tree = ok.tree;
      registry = record {
        order = ordered_change id_of pended ids 0 r.next k r.tasks ok.registry.order;
        marks = λ i h. ((ok.registry.marks i h).0, λ t' is. (let w = was pended ids k r i t' is in flag i t' w ∙ (ok.registry.marks i h).1 w.task w.listed));
        ends = λ i h. ((ok.registry.ends i h).0, none_change pended ids k r i (ok.registry.ends i h).1);
        homes = λ i s h. ((ok.registry.homes i s h).0, λ t' is. (let w = was pended ids k r i t' is in home i t' w ∙ (ok.registry.homes i s h).1 w.task w.listed));
        seats = λ i t' is.
            let w = was pended ids k r i t' is in
            elim (ok.registry.seats i w.task w.listed) [ inl z ↦ inl z | inr x ↦ inr (record { node = x.node; home = home i t' w ∙ x.home; is_told = x.is_told }) ];
        marked_truly = λ i t' is m. let w = was pended ids k r i t' is in ok.registry.marked_truly i w.task w.listed (sym (flag i t' w) ∙ m);
        ended_truly = λ i low gone. ok.registry.ended_truly i low (change_none pended ids k r i gone);
      };
      sits = λ i s t' h is.
          let w = was pended ids k r i t' is in
          let x = ok.sits i s w.task h w.listed in
          record { is = x.is; lives = x.lives; task = x.task; spared = λ a. elim (x.spared a) [ inl m ↦ inl (flag i t' w ∙ m) | inr l ↦ inr l ] };
      falls = ok.falls;
    }

-- MARKS. one task fewer is late
abbrev pub AllBut : ℕ → List ℕ → List ℕ → Type 0
AllBut k late late' = (i : ℕ) → In i late → (i ≡ k) ⊎ In i late'

-- a task is marked
pub watched_marked : (told : List Tiding) (late late' : List ℕ) (r : Registry) (F : Family) (k : ℕ) (t₀ : Task) → Listed r k t₀ → AllBut k late late' → Watched told late r F →
    Watched (told ++ marked k ∷ []) late' (with_changed model.marked k r) F
watched_marked told late late' r F k t₀ here fewer ok =
    let ids : (t : Task) → (model.marked t).id ≡ t.id = λ t. refl in
    let x : Tiding = marked k in
    let home : (i : ℕ) (t' : Task) (w : Was model.marked k r i t') → t'.node ≡ w.task.node = λ i t' w. elim w.either [ inl e ↦ ap (λ (t : Task). t.node) e.1 | inr e ↦ ap (λ (t : Task). t.node) e.1 ] in
    record {
      tree = tree_more told F x refl refl ok.tree;
      registry = record {
        order = ordered_change id_of model.marked ids 0 r.next k r.tasks ok.registry.order;
        marks = λ i h. elim (told_parts (marked i) x told h) [
          | inl old ↦ (
            (ok.registry.marks i old).0,
            λ t' is.
                let w = was model.marked ids k r i t' is in
                elim w.either [ inl e ↦ ap (λ (t : Task). t.marked) e.1 | inr e ↦ ap (λ (t : Task). t.marked) e.1 ∙ (ok.registry.marks i old).1 w.task w.listed ],
          )
          | inr new ↦ (
            omega (arith, listed_low told r ok.registry k t₀ here, ap whom new),
            λ t' is.
                let w = was model.marked ids k r i t' is in
                elim w.either [ inl e ↦ ap (λ (t : Task). t.marked) e.1 | inr e ↦ absurd (e.0 (ap whom new)) ],
          )
        ];
        ends = λ i h. let old = told_before (ended i) x told refl h in ((ok.registry.ends i old).0, none_change model.marked ids k r i (ok.registry.ends i old).1);
        homes = λ i s h.
            let old = told_before (seated i s) x told refl h in
            ((ok.registry.homes i s old).0, λ t' is. (let w = was model.marked ids k r i t' is in home i t' w ∙ (ok.registry.homes i s old).1 w.task w.listed));
        seats = λ i t' is.
            let w = was model.marked ids k r i t' is in
            elim (ok.registry.seats i w.task w.listed) [ inl z ↦ inl z | inr y ↦ inr (record { node = y.node; home = home i t' w ∙ y.home; is_told = told_still (seated i y.node) x told y.is_told }) ];
        marked_truly = λ i t' is m.
            let w = was model.marked ids k r i t' is in
            elim w.either [
              | inl e ↦ subst (λ z. In (marked z) (told ++ x ∷ [])) (sym e.0) (told_last x told)
              | inr e ↦ told_still (marked i) x told (ok.registry.marked_truly i w.task w.listed (ap (λ (t : Task). t.marked) (sym e.1) ∙ m))
            ];
        ended_truly = λ i low gone. told_still (ended i) x told (ok.registry.ended_truly i low (change_none model.marked ids k r i gone));
      };
      sits = λ i s t' h is.
          let w = was model.marked ids k r i t' is in
          let y = ok.sits i s w.task (told_before (seated i s) x told refl h) w.listed in
          record {
            is = y.is;
            lives = y.lives;
            task = y.task;
            spared = λ a. elim w.either [
              | inl e ↦ inl (ap (λ (t : Task). t.marked) e.1)
              | inr e ↦ elim (y.spared a) [
                | inl m ↦ inl (ap (λ (t : Task). t.marked) e.1 ∙ m)
                | inr l ↦ elim (fewer i l) [ inl z ↦ absurd (e.0 z) | inr l' ↦ inr l' ]
              ]
            ];
          };
      falls = λ i s n e h l. ok.falls i s n (told_before (ended i) x told refl e) (told_before (seated i s) x told refl h) l;
    }

-- a task that is marked already, or not registered, is not late
pub watched_fewer : (told : List Tiding) (late late' : List ℕ) (r : Registry) (F : Family) (k : ℕ) → ((t : Task) → Listed r k t → t.marked ≡ true) → AllBut k late late' → Watched told late r F → Watched told late' r F
watched_fewer told late late' r F k done fewer ok = record {
  tree = ok.tree;
  registry = ok.registry;
  sits = λ i s t h is.
      let x = ok.sits i s t h is in
      record {
        is = x.is;
        lives = x.lives;
        task = x.task;
        spared = λ a. elim (x.spared a) [
          | inl m ↦ inl m
          | inr l ↦ elim (fewer i l) [ inl e ↦ inl (done t (subst (λ z. Listed r z t) e is)) | inr l' ↦ inr l' ]
        ];
      };
  falls = ok.falls;
}

-- THE END. the node of a task that will end is aborted, wherever it was told seated
abbrev pub Felled : List Tiding → ℕ → Family → Type 0
Felled told i F = (s : ℕ) (n : Node) → In (seated i s) told → Lives F s n → n.aborted ≡ true

-- a task leaves
pub watched_left : (told : List Tiding) (r : Registry) (F : Family) (k : ℕ) → k < r.next → Felled told k F → Watched told (k ∷ []) r F → Watched (told ++ ended k ∷ []) [] (without_task k r) (left k F)
watched_left told r F k low₀ fell ok =
    let x : Tiding = ended k in
    let thin = thinned_left k F in
    let apart : (i : ℕ) (t : Task) → Listed (without_task k r) i t → i ≡ k → ⊥ = λ i t is e. some_not_none (find_without_here id_of k r.tasks) (subst (λ z. Listed (without_task k r) z t) e is) in
    let back : (i : ℕ) (t : Task) → Listed (without_task k r) i t → Listed r i t = λ i t is. find_without id_of k i r.tasks t is in
    record {
      tree = tree_more told (left k F) x refl refl (tree_thinned told F (left k F) ok.tree (whole_left k F ok.tree.whole) (next_settled (all_vacated k F)) thin);
      registry = record {
        order = ordered_without id_of 0 r.next k r.tasks ok.registry.order;
        marks = λ i h. let old = told_before (marked i) x told refl h in ((ok.registry.marks i old).0, λ t is. (ok.registry.marks i old).1 t (back i t is));
        ends = λ i h. elim (told_parts (ended i) x told h) [
          | inl old ↦ ((ok.registry.ends i old).0, elim (none_or_some (find id_of i (without_task k r).tasks)) [ inl e ↦ e | inr w ↦ absurd (some_not_none (ok.registry.ends i old).1 (back i w.0 w.1)) ])
          | inr new ↦ (omega (arith, low₀, ap whom new), subst (λ z. find id_of z (without_task k r).tasks ≡ None) (sym (ap whom new)) (find_without_here id_of k r.tasks))
        ];
        homes = λ i s h. let old = told_before (seated i s) x told refl h in ((ok.registry.homes i s old).0, λ t is. (ok.registry.homes i s old).1 t (back i t is));
        seats = λ i t is. elim (ok.registry.seats i t (back i t is)) [ inl z ↦ inl z | inr w ↦ inr (record { node = w.node; home = w.home; is_told = told_still (seated i w.node) x told w.is_told }) ];
        marked_truly = λ i t is m. told_still (marked i) x told (ok.registry.marked_truly i t (back i t is) m);
        ended_truly = λ i low gone. elim (cases_eq i k) [
          | inl e ↦ subst (λ z. In (ended z) (told ++ x ∷ [])) (sym e) (told_last x told)
          | inr e ↦ told_still (ended i) x told (ok.registry.ended_truly i low (sym (find_without_other id_of k i r.tasks e) ∙ gone))
        ];
      };
      sits = λ i s t h is.
          let y = ok.sits i s t (told_before (seated i s) x told refl h) (back i t is) in
          let z = seat_left i k (apart i t is) F ok.tree.whole.solid s y.is y.lives y.task in
          record {
            is = z.is;
            lives = z.lives;
            task = z.task;
            spared = λ a. elim (y.spared (sym z.flag ∙ a)) [ inl m ↦ inl m | inr l ↦ elim l [ inl e ↦ absurd (apart i t is e) | inr w ↦ absurd w ] ];
          };
      falls = λ i s n e h l.
          let c = thin s n l in
          let seat = told_before (seated i s) x told refl h in
          elim (told_parts (ended i) x told e) [
            | inl old ↦ c.flags (ok.falls i s c.was old seat c.lived)
            | inr new ↦ c.flags (fell s c.was (subst (λ z. In (seated z s) told) (ap whom new) seat) c.lived)
          ];
    }
