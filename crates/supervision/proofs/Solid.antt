-- The facts of a tree together, and the changes that keep them because they add nothing.
use Rattle.std.proofs.Common.{◌≡◌, ℕ, Bool, true, cond, eqb, ltb, List, map, is_some, Some, None, filter, Option, sym, refl, ap, ◌∙◌, subst}
use Rattle.std.proofs.lemmas.Bool.{eqb-true, and_parts, or_right, cond_both}
use Rattle.keyed.specs.Keyed.{ordered, find}
use Rattle.keyed.specs.Choices.{holds, given}
use Rattle.keyed.proofs.Finds.{on, unmapped}
use Rattle.keyed.proofs.Maps.{change_map, on_same, find_map, ordered_map, is_some_mapped, is_some_is}
use Rattle.keyed.proofs.Searches.{any_kept, any_unkept}
use Rattle.nodes.specs.declared.Node.{Node}
use Rattle.nodes.specs.Node.{serial_of, with_stale}
use Rattle.links.specs.declared.Link.{Link}
use Rattle.links.specs.Link.{from, joins, survives, elsewhere}
use Rattle.lineage.specs.Family.{Family, family, node_at, changed}
use Rattle.lineage.specs.Births.{swept, tidied}
use Rattle.supervision.specs.Sound.{Lives, has_link, Born, Kin, Rooted, Shielded, Linked, Honest, Past}

-- the facts that no flag enters into
pub record Frame (F : Family) : Type 0 where
  pub order : ordered serial_of 0 F.next F.nodes ≡ true
  pub rooted : Rooted F
  pub honest : Honest F
  pub past : Past F

-- what holds of a tree at every step, also between a change and the deaths that it brings
pub record Solid (F : Family) : Type 0 where
  pub frame : Frame F
  pub shielded : Shielded F
  pub linked : Linked F

-- a node of a later tree that was in F, with the same parent
pub record Old (F : Family) (t : ℕ) (n' : Node) : Type 0 where
  pub was : Node
  pub lived : Lives F t was
  pub parents : n'.parent ≡ was.parent

-- G has no node and no link that F has not, and the parents of its nodes
pub record Loose (F G : Family) : Type 0 where
  pub order : ordered serial_of 0 G.next G.nodes ≡ true
  pub same_next : G.next ≡ F.next
  pub old : (t : ℕ) (n' : Node) → Lives G t n' → Old F t n'
  pub fewer : (p s : ℕ) → has_link p s G ≡ true → has_link p s F ≡ true
  pub roots : (b : Born G) → is_some (node_at b.parent F) ≡ true → is_some (node_at b.parent G) ≡ true

-- and the flags of its nodes are as they were, and links between those that live are there
pub record Within (F G : Family) : Type 0 where
  pub loose : Loose F G
  pub flags : (t : ℕ) (n' : Node) (l : Lives G t n') → n'.aborted ≡ (loose.old t n' l).was.aborted
  pub enough : (k : Kin G) → has_link k.born.parent k.born.serial F ≡ true → has_link k.born.parent k.born.serial G ≡ true

-- a node and its parent, as they were
abbrev pub born_back : (F G : Family) → Loose F G → Born G → Born F
born_back F G w b = record {
  serial = b.serial;
  node = (w.old b.serial b.node b.lives).was;
  parent = b.parent;
  lives = (w.old b.serial b.node b.lives).lived;
  under = ap (holds b.parent) (sym (w.old b.serial b.node b.lives).parents) ∙ b.under;
}

abbrev pub kin_back : (F G : Family) → Loose F G → Kin G → Kin F
kin_back F G w k = record { born = born_back F G w k.born; above = (w.old k.born.parent k.above k.stands).was; stands = (w.old k.born.parent k.above k.stands).lived }

pub frame_loose : (F G : Family) → Loose F G → Frame F → Frame G
frame_loose F G w ok = record {
  order = w.order;
  rooted = λ b. w.roots b (ok.rooted (born_back F G w b));
  honest = λ l.
      let o = w.old l.serial l.node l.lives in
      ap (holds l.parent) o.parents ∙ ok.honest (record { parent = l.parent; serial = l.serial; node = o.was; links = w.fewer l.parent l.serial l.links; lives = o.lived });
  past = λ l. ap (λ k. ltb l.serial k) w.same_next ∙ ok.past (record { parent = l.parent; serial = l.serial; links = w.fewer l.parent l.serial l.links });
}

pub solid_within : (F G : Family) → Within F G → Solid F → Solid G
solid_within F G w ok =
    let v = w.loose in
    record {
      frame = frame_loose F G v ok.frame;
      shielded = λ k a. w.flags k.born.serial k.born.node k.born.lives ∙ ok.shielded (kin_back F G v k) (sym (w.flags k.born.parent k.above k.stands) ∙ a);
      linked = λ k a. w.enough k (ok.linked (kin_back F G v k) (sym (w.flags k.born.parent k.above k.stands) ∙ a));
    }

-- each node is changed, and keeps its serial and its parent
module _ (g : Node → Node) (serials : (n : Node) → (g n).serial ≡ n.serial) (parents : (n : Node) → (g n).parent ≡ n.parent) where
  unmap : (F : Family) (t : ℕ) (n' : Node) → find serial_of t (map g F.nodes) ≡ Some n' → (n : Node) × (find serial_of t F.nodes ≡ Some n) × (n' ≡ g n)
  unmap F t n' l = unmapped g (find serial_of t F.nodes) n' (sym (find_map serial_of g serials t F.nodes) ∙ l)

  pub loose_map : (F : Family) → ordered serial_of 0 F.next F.nodes ≡ true → Loose F (family (map g F.nodes) F.links F.next)
  loose_map F o = record {
    order = ordered_map serial_of g serials 0 F.next F.nodes ∙ o;
    same_next = refl;
    old = λ t n' l. record { was = (unmap F t n' l).0; lived = (unmap F t n' l).1; parents = ap (λ (n : Node). n.parent) (unmap F t n' l).2 ∙ parents (unmap F t n' l).0 };
    fewer = λ p s h. h;
    roots = λ b h. ap is_some (find_map serial_of g serials b.parent F.nodes) ∙ (is_some_mapped g (find serial_of b.parent F.nodes) ∙ h);
  }

  pub frame_map : (F : Family) → Frame F → Frame (family (map g F.nodes) F.links F.next)
  frame_map F ok = frame_loose F (family (map g F.nodes) F.links F.next) (loose_map F ok.order) ok

  -- and its flag
  pub solid_map : ((n : Node) → (g n).aborted ≡ n.aborted) → (F : Family) → Solid F → Solid (family (map g F.nodes) F.links F.next)
  unfolding loose_map
  solid_map flags F ok =
      let w : Within F (family (map g F.nodes) F.links F.next) = record {
        loose = loose_map F ok.frame.order;
        flags = λ t n' l. ap (λ (n : Node). n.aborted) (unmap F t n' l).2 ∙ flags (unmap F t n' l).0;
        enough = λ k h. h;
      } in
      solid_within F (family (map g F.nodes) F.links F.next) w ok

-- one node is changed
module _ (f : Node → Node) (serials : (n : Node) → (f n).serial ≡ n.serial) (parents : (n : Node) → (f n).parent ≡ n.parent) where
  pub frame_changed : (s : ℕ) (F : Family) → Frame F → Frame (changed f s F)
  frame_changed s F ok =
      subst (λ (l : List Node). Frame (family l F.links F.next)) (sym (change_map serial_of f s F.nodes))
      (frame_map (on serial_of s f) (on_same serial_of (λ (n : Node). n.serial) f serials s) (on_same serial_of (λ (n : Node). n.parent) f parents s) F ok)

  pub solid_changed : ((n : Node) → (f n).aborted ≡ n.aborted) → (s : ℕ) (F : Family) → Solid F → Solid (changed f s F)
  solid_changed flags s F ok =
      subst (λ (l : List Node). Solid (family l F.links F.next)) (sym (change_map serial_of f s F.nodes))
      (solid_map (on serial_of s f) (on_same serial_of (λ (n : Node). n.serial) f serials s) (on_same serial_of (λ (n : Node). n.parent) f parents s) (on_same serial_of (λ (n : Node). n.aborted) f flags s) F ok)

-- links are dropped
pub loose_dropped : (keep : Link → Bool) (F : Family) → ordered serial_of 0 F.next F.nodes ≡ true → Loose F (family F.nodes (filter keep F.links) F.next)
loose_dropped keep F o = record {
  order = o;
  same_next = refl;
  old = λ t n' l. record { was = n'; lived = l; parents = refl };
  fewer = λ p s h. any_unkept (joins p s) keep F.links h;
  roots = λ b h. h;
}

-- but none that joins a living node to its living parent
pub solid_dropped : (keep : Link → Bool) (F : Family) → ((k : Kin F) (l : Link) → joins k.born.parent k.born.serial l ≡ true → keep l ≡ true) → Solid F → Solid (family F.nodes (filter keep F.links) F.next)
unfolding loose_dropped
solid_dropped keep F keeps ok =
    let G : Family = family F.nodes (filter keep F.links) F.next in
    let w : Within F G = record {
      loose = loose_dropped keep F ok.frame.order;
      flags = λ t n' l. refl;
      enough = λ k h.
          let k' : Kin F = record { born = record { serial = k.born.serial; node = k.born.node; parent = k.born.parent; lives = k.born.lives; under = k.born.under }; above = k.above; stands = k.stands } in
          any_kept (joins k.born.parent k.born.serial) keep F.links h (keeps k');
    } in
    solid_within F G w ok

pub joins_child : (p s : ℕ) (l : Link) → joins p s l ≡ true → l.child ≡ s
joins_child p s l h = eqb-true l.child s (and_parts (from p l) (eqb l.child s) h).1

pub joins_parent : (p s : ℕ) (l : Link) → joins p s l ≡ true → l.parent ≡ p
joins_parent p s l h = eqb-true l.parent p (and_parts (from p l) (eqb l.child s) h).0

pub solid_swept : (p : ℕ) (F : Family) → Solid F → Solid (swept p F)
solid_swept p F ok =
    let G : Family = family F.nodes (filter (survives p F.nodes) F.links) F.next in
    let kept : Solid G = solid_dropped (survives p F.nodes) F (λ k l h. or_right (elsewhere p l) (is_some (find serial_of l.child F.nodes)) (ap (λ c. is_some (find serial_of c F.nodes)) (joins_child k.born.parent k.born.serial l h) ∙ is_some_is (node_at k.born.serial F) k.born.node k.born.lives)) ok in
    solid_changed (with_stale 0) (λ _. refl) (λ _. refl) (λ _. refl) p G kept

-- what a tidied tree is, whether or not links were dropped
tidied_by_at : (P : Family → Type 0) (p : ℕ) (F : Family) → P F → P (swept p F) → (o : Option Node) → P (given o F (λ n. cond (ltb n.stale 32) F (swept p F)))
tidied_by_at P p F same swept' None = same
tidied_by_at P p F same swept' (Some n) = cond_both (ltb n.stale 32) F (swept p F) P (λ _. same) (λ _. swept')

pub tidied_by : (P : Family → Type 0) (p : ℕ) (F : Family) → P F → P (swept p F) → P (tidied p F)
tidied_by P p F same swept' = tidied_by_at P p F same swept' (node_at p F)

pub solid_tidied : (p : ℕ) (F : Family) → Solid F → Solid (tidied p F)
solid_tidied p F ok = tidied_by Solid p F ok (solid_swept p F ok)
