-- The walk of a cascade keeps what always holds of a tree, and aborts what is under its top and nothing else.
use Rattle.std.proofs.Common.{◌≡◌, ℕ, zero, suc, ◌+◌, true, false, cond, not, eqb, ◌⊎◌, List, [], ◌∷◌, ◌++◌, reverse, length, Some, None, filter, Option, sym, refl, ap, ◌∙◌, subst, inl, inr, arith}
use Rattle.std.proofs.lemmas.Bool.{cond_both, both_ways, ne_eqb, false≢true}
use Rattle.std.proofs.lemmas.List.{nil_from_length, length-append, length-reverse}
use Rattle.keyed.specs.Keyed.{change}
use Rattle.keyed.specs.Choices.{given, holds}
use Rattle.keyed.specs.Members.{In}
use Rattle.keyed.proofs.Finds.{on, same_some, some_not_none, find_change_some}
use Rattle.keyed.proofs.Members.{in_left, in_right, in_parts, in_reverse, in_unreverse}
use Rattle.keyed.proofs.Searches.{any_kept}
use Rattle.nodes.specs.declared.Node.{Node}
use Rattle.nodes.specs.Node.{serial_of}
use Rattle.links.specs.Link.{joins, elsewhere, children}
use Rattle.lineage.specs.Family.{Family, family, node_at, changed, aborted_at}
use Rattle.lineage.specs.Cascade.{Step, condemned, passed, struck, step_at, step, walk, cascaded}
use Rattle.lineage.proofs.Visits.{step_leaves}
use Rattle.supervision.specs.Sound.{Lives, has_link, Kin, Shielded, Linked, Kept, Single}
use Rattle.supervision.specs.Laws.{Under, itself, below, AllAborted}
use Rattle.supervision.proofs.Solid.{Frame, frame_changed, frame_loose, loose_dropped, joins_parent}
use Rattle.supervision.proofs.Keeping.{kept_change}
use Rattle.supervision.proofs.Whole.{Whole}
use Rattle.supervision.proofs.Struck.{Before, before, linked_child, child_linked}

-- a node of the walk's tree, as it was at the beginning
pub record Came (F₀ : Family) (top t : ℕ) (n' : Node) : Type 0 where
  pub was : Node
  pub lived : Lives F₀ t was
  pub parents : n'.parent ≡ was.parent
  pub aborts : n'.aborted ≡ true → (was.aborted ≡ true) ⊎ Under F₀ top t

-- a node of the beginning, as it is now
pub record Goes (F : Family) (t : ℕ) (n : Node) : Type 0 where
  pub is : Node
  pub lives : Lives F t is
  pub stays : n.aborted ≡ true → is.aborted ≡ true

-- the walk from `top`, begun at F₀, has come to F, and st waits
pub record Walking (F₀ : Family) (top : ℕ) (F : Family) (st : List ℕ) : Type 0 where
  pub frame : Frame F
  pub kept : Kept F
  pub linked : Linked F
  -- a child of an aborted node is aborted, or waits
  pub covered : (k : Kin F) → k.above.aborted ≡ true → (k.born.node.aborted ≡ true) ⊎ In k.born.serial st
  -- so is the top
  pub tops : (n : Node) → Lives F top n → (n.aborted ≡ true) ⊎ In top st
  pub goes : (t : ℕ) (n : Node) → Lives F₀ t n → Goes F t n
  pub came : (t : ℕ) (n' : Node) → Lives F t n' → Came F₀ top t n'
  -- what waits and lives is under the top
  pub waits : (t : ℕ) (n : Node) → In t st → Lives F t n → Under F₀ top t

-- of what waits, the first is passed over: it is dead or aborted
passes : (F₀ : Family) (top : ℕ) (F : Family) (s₀ : ℕ) (st : List ℕ) → ((n : Node) → Lives F s₀ n → n.aborted ≡ true) → Walking F₀ top F (s₀ ∷ st) → Walking F₀ top F st
passes F₀ top F s₀ st over w = record {
  frame = w.frame;
  kept = w.kept;
  linked = w.linked;
  covered = λ k a. elim (w.covered k a) [ inl x ↦ inl x | inr i ↦ elim i [ inl e ↦ inl (over k.born.node (subst (λ z. Lives F z k.born.node) e k.born.lives)) | inr r ↦ inr r ] ];
  tops = λ n l. elim (w.tops n l) [ inl x ↦ inl x | inr i ↦ elim i [ inl e ↦ inl (over n (subst (λ z. Lives F z n) e l)) | inr r ↦ inr r ] ];
  goes = w.goes;
  came = w.came;
  waits = λ t n i l. w.waits t n (inr i) l;
}

-- the tree after the node s₀ is struck
abbrev after_hit : Family → ℕ → Family
after_hit F s₀ = family (change serial_of condemned s₀ F.nodes) (filter (elsewhere s₀) F.links) F.next

abbrev stack : Family → ℕ → List ℕ → List ℕ
stack F s₀ st = reverse (children s₀ F.links) ++ st

module _ (F₀ : Family) (top : ℕ) (F : Family) (s₀ : ℕ) (st : List ℕ) (n₀ : Node) (found : Lives F s₀ n₀) (quiet : n₀.aborted ≡ false) (w : Walking F₀ top F (s₀ ∷ st)) where
  back : (t : ℕ) (n' : Node) → Lives (after_hit F s₀) t n' → Before s₀ t F.nodes n'
  back t n' l = before s₀ t F.nodes n' l

  -- s₀ itself is under the top
  here : Under F₀ top s₀
  here = w.waits s₀ n₀ (inl refl) found

  -- a child and its parent, as they were
  kin_was : Kin (after_hit F s₀) → Kin F
  kin_was k = record {
    born = record { serial = k.born.serial; node = (back k.born.serial k.born.node k.born.lives).was; parent = k.born.parent; lives = (back k.born.serial k.born.node k.born.lives).lived; under = ap (holds k.born.parent) (sym (back k.born.serial k.born.node k.born.lives).parents) ∙ k.born.under };
    above = (back k.born.parent k.above k.stands).was;
    stands = (back k.born.parent k.above k.stands).lived;
  }

  hit_covered : (k : Kin (after_hit F s₀)) → k.above.aborted ≡ true → (k.born.node.aborted ≡ true) ⊎ In k.born.serial (stack F s₀ st)
  unfolding kin_was
  hit_covered k a =
      let bn = back k.born.serial k.born.node k.born.lives in
      let bm = back k.born.parent k.above k.stands in
      elim bn.either [
        | inl h ↦ inl h.1
        | inr same ↦ elim bm.either [
          | inl h ↦
              let is : bm.was ≡ n₀ = same_some (subst (λ z. Lives F z bm.was) h.0 bm.lived) found in
              let q : bm.was.aborted ≡ false = ap (λ (x : Node). x.aborted) is ∙ quiet in
              let leads : has_link s₀ k.born.serial F ≡ true = subst (λ z. has_link z k.born.serial F ≡ true) h.0 (w.linked (kin_was k) q) in
              inr (in_left k.born.serial (reverse (children s₀ F.links)) st (in_reverse k.born.serial (children s₀ F.links) (linked_child s₀ k.born.serial F.links leads)))
          | inr h ↦ elim (w.covered (kin_was k) (ap (λ (x : Node). x.aborted) (sym h.1) ∙ a)) [
            | inl x ↦ inl (ap (λ (y : Node). y.aborted) same.1 ∙ x)
            | inr i ↦ elim i [ inl e ↦ absurd (same.0 e) | inr r ↦ inr (in_right k.born.serial (reverse (children s₀ F.links)) st r) ]
          ]
        ]
      ]

  hit_tops : (n : Node) → Lives (after_hit F s₀) top n → (n.aborted ≡ true) ⊎ In top (stack F s₀ st)
  hit_tops n l =
      let bn = back top n l in
      elim bn.either [
        | inl h ↦ inl h.1
        | inr same ↦ elim (w.tops bn.was bn.lived) [
          | inl x ↦ inl (ap (λ (y : Node). y.aborted) same.1 ∙ x)
          | inr i ↦ elim i [ inl e ↦ absurd (same.0 e) | inr r ↦ inr (in_right top (reverse (children s₀ F.links)) st r) ]
        ]
      ]

  hit_linked : Linked (after_hit F s₀)
  unfolding kin_was
  hit_linked k a =
      let bm = back k.born.parent k.above k.stands in
      elim bm.either [
        | inl h ↦ absurd (both_ways k.above.aborted a h.1)
        | inr sm ↦ any_kept (joins k.born.parent k.born.serial) (elsewhere s₀) F.links (w.linked (kin_was k) (ap (λ (x : Node). x.aborted) (sym sm.1) ∙ a)) (λ l j. ap not (ne_eqb l.parent s₀ (λ e. sm.0 (sym (joins_parent k.born.parent k.born.serial l j) ∙ e))))
      ]

  hit_goes : (t : ℕ) (n : Node) → Lives F₀ t n → Goes (after_hit F s₀) t n
  hit_goes t n l =
      let g = w.goes t n l in
      record {
        is = on serial_of s₀ condemned g.is;
        lives = find_change_some serial_of condemned (λ _. refl) s₀ t F.nodes g.is g.lives;
        stays = λ a. elim (eqb (serial_of g.is) s₀) as (λ b. (cond b (condemned g.is) g.is).aborted ≡ true) [ true ↦ refl | false ↦ g.stays a ];
      }

  hit_came : (t : ℕ) (n' : Node) → Lives (after_hit F s₀) t n' → Came F₀ top t n'
  hit_came t n' l =
      let bn = back t n' l in
      let g = w.came t bn.was bn.lived in
      record {
        was = g.was;
        lived = g.lived;
        parents = bn.parents ∙ g.parents;
        aborts = λ a. elim bn.either [
          | inl h ↦ inr (subst (Under F₀ top) (sym h.0) here)
          | inr same ↦ g.aborts (ap (λ (x : Node). x.aborted) (sym same.1) ∙ a)
        ];
      }

  hit_waits : (t : ℕ) (n : Node) → In t (stack F s₀ st) → Lives (after_hit F s₀) t n → Under F₀ top t
  hit_waits t n i l =
      let bn = back t n l in
      elim (in_parts t (reverse (children s₀ F.links)) st i) [
        | inl c ↦
            let leads = child_linked s₀ t F.links (in_unreverse t (children s₀ F.links) c) in
            let up = w.frame.honest (record { parent = s₀; serial = t; node = bn.was; links = leads; lives = bn.lived }) in
            let g = w.came t bn.was bn.lived in
            let h = w.came s₀ n₀ found in
            below (record { born = record { serial = t; node = g.was; parent = s₀; lives = g.lived; under = ap (holds s₀) (sym g.parents) ∙ up }; above = h.was; stands = h.lived }) here
        | inr r ↦ w.waits t bn.was (inr r) bn.lived
      ]

  pub hits : Walking F₀ top (after_hit F s₀) (reverse (children s₀ F.links) ++ st)
  hits =
      let changes : Frame (changed condemned s₀ F) = frame_changed condemned (λ _. refl) (λ _. refl) s₀ F w.frame in
      record {
        frame = frame_loose (changed condemned s₀ F) (after_hit F s₀) (loose_dropped (elsewhere s₀) (changed condemned s₀ F) changes.order) changes;
        kept = kept_change condemned (λ _. refl) (λ _. refl) (λ _ h. h) s₀ F.nodes w.kept;
        linked = hit_linked;
        covered = hit_covered;
        tops = hit_tops;
        goes = hit_goes;
        came = hit_came;
        waits = hit_waits;
      }

step_walking_at : (F₀ : Family) (top : ℕ) (F : Family) (s₀ : ℕ) (st : List ℕ) (o : Option Node) → node_at s₀ F ≡ o → Walking F₀ top F (s₀ ∷ st) → Walking F₀ top (step_at s₀ o F).after (reverse (step_at s₀ o F).below ++ st)
step_walking_at F₀ top F s₀ st None e w = passes F₀ top F s₀ st (λ n l. absurd (some_not_none e l)) w
step_walking_at F₀ top F s₀ st (Some n) e w =
    cond_both n.aborted (passed F) (struck s₀ n F) (λ (v : Step). Walking F₀ top v.after (reverse v.below ++ st))
    (λ a. passes F₀ top F s₀ st (λ m l. ap (λ (x : Node). x.aborted) (same_some l e) ∙ a) w)
    (λ q. hits F₀ top F s₀ st n e q w)

-- enough steps for all that waits and is linked
abbrev Enough : ℕ → List ℕ → Family → Type 0
Enough k st F = k ≡ length st + length F.links

enough_more : (k : ℕ) (F : Family) (s : ℕ) (st : List ℕ) → Enough (suc k) (s ∷ st) F → Enough k (reverse (step s F).below ++ st) (step s F).after
enough_more k F s st e =
    let a = length-append (reverse (step s F).below) st in
    let b = length-reverse (step s F).below in
    omega (arith, a, b, (step_leaves s F).falls, e)

walk_walking : (F₀ : Family) (top k : ℕ) (st : List ℕ) (F : Family) → Enough k st F → Walking F₀ top F st → Walking F₀ top (walk k st F).0 []
walk_walking F₀ top zero st F e w = subst (Walking F₀ top F) (nil_from_length st (omega (arith, e))) w
walk_walking F₀ top (suc k) [] F e w = w
walk_walking F₀ top (suc k) (s ∷ st) F e w =
    walk_walking F₀ top k (reverse (step s F).below ++ st) (step s F).after (enough_more k F s st e) (step_walking_at F₀ top F s st (node_at s F) refl w)

start : (F : Family) (top : ℕ) → Whole F → Walking F top F (top ∷ [])
start F top ok = record {
  frame = ok.solid.frame;
  kept = ok.kept;
  linked = ok.solid.linked;
  covered = λ k a. inl (ok.solid.shielded k a);
  tops = λ n l. inr (inl refl);
  goes = λ t n l. record { is = n; lives = l; stays = λ a. a };
  came = λ t n l. record { was = n; lived = l; parents = refl; aborts = λ a. inl a };
  waits = λ t n i l. elim i [ inl e ↦ subst (Under F top) (sym e) (itself (subst (λ z. Lives F z n) e l)) | inr z ↦ absurd z ];
}

pub walked : (top : ℕ) (F : Family) → Whole F → Walking F top (cascaded top F).0 []
walked top F ok = walk_walking F top (1 + length F.links) (top ∷ []) F (omega arith) (start F top ok)

module _ (F G : Family) (top : ℕ) (w : Walking F top G []) where
  shields : Shielded G
  shields k a = elim (w.covered k a) [ inl x ↦ x | inr z ↦ absurd z ]

  pub walked_whole : Single G → Whole G
  walked_whole one = record { solid = record { frame = w.frame; shielded = shields; linked = w.linked }; kept = w.kept; single = one }

  pub under_aborted : {t : ℕ} → Under F top t → (n : Node) → Lives G t n → n.aborted ≡ true
  under_aborted (itself l) n g = elim (w.tops n g) [ inl x ↦ x | inr z ↦ absurd z ]
  under_aborted (below k u) n g =
      let up = w.goes k.born.parent k.above k.stands in
      let above = under_aborted u up.is up.lives in
      let was = w.came k.born.serial n g in
      let is : was.was ≡ k.born.node = same_some was.lived k.born.lives in
      shields (record { born = record { serial = k.born.serial; node = n; parent = k.born.parent; lives = g; under = ap (holds k.born.parent) (was.parents ∙ ap (λ (x : Node). x.parent) is) ∙ k.born.under }; above = up.is; stands = up.lives }) above

-- an aborted node shields nothing under it
pub aborted_below : (F : Family) → Shielded F → (s : ℕ) (m : Node) → Lives F s m → m.aborted ≡ true → {t : ℕ} → Under F s t → (n : Node) → Lives F t n → n.aborted ≡ true
aborted_below F ok s m l a (itself k) n g = ap (λ (x : Node). x.aborted) (same_some g l) ∙ a
aborted_below F ok s m l a (below k u) n g =
    let above = aborted_below F ok s m l a u k.above k.stands in
    ap (λ (x : Node). x.aborted) (same_some g k.born.lives) ∙ ok k above

aborted_lives_at : (o : Option Node) → given o false (λ n. n.aborted) ≡ true → (n : Node) × (o ≡ Some n) × (n.aborted ≡ true)
aborted_lives_at None h = absurd (false≢true h)
aborted_lives_at (Some n) h = (n, refl, h)

pub all_aborted : (s : ℕ) (F : Family) → Whole F → aborted_at s F ≡ true → AllAborted s F
all_aborted s F ok h =
    let top = aborted_lives_at (node_at s F) h in
    λ t n u l. aborted_below F ok.solid.shielded s top.0 top.1 top.2 u n l
