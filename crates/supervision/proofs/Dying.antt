-- Deaths keep the facts of a tree, and end only when nothing is left to die.
use Rattle.std.proofs.Common.{◌≡◌, ℕ, zero, suc, false, not, ◌||◌, List, length, is_some, Some, None, filter, Option, sym, refl, ap, ◌∙◌, arith}
use Rattle.std.proofs.lemmas.List.{nil_from_length}
use Rattle.std.proofs.lemmas.Bool.{ne_eqb, or_parts, not-true, both_ways}
use Rattle.keyed.specs.Keyed.{without}
use Rattle.keyed.specs.Choices.{given}
use Rattle.keyed.specs.Members.{any, first}
use Rattle.keyed.proofs.Orders.{ordered_without}
use Rattle.keyed.proofs.Finds.{find_in, find_without, find_without_other}
use Rattle.keyed.proofs.Searches.{first_in, first_none_any, not_any}
use Rattle.nodes.specs.declared.Node.{Node}
use Rattle.nodes.specs.Node.{serial_of, bereaved, child_of, kept, unkept}
use Rattle.links.specs.Link.{elsewhere}
use Rattle.lineage.specs.Family.{Family, family}
use Rattle.lineage.specs.Deaths.{mourned, buried, doomed, one_dies, repeated, settled}
use Rattle.lineage.proofs.Burials.{buried_fewer, repeated_none}
use Rattle.supervision.specs.Sound.{Born, Kept}
use Rattle.supervision.proofs.Solid.{Solid, Loose, Within, solid_within, solid_dropped, solid_changed, joins_parent}

-- what is doomed has no living child
childless : (F : Family) (n : Node) → doomed F ≡ Some n → any (child_of n.serial) F.nodes ≡ false
childless F n h =
    let lone : kept F.nodes n ≡ false = not-true (kept F.nodes n) (first_in (unkept F.nodes) F.nodes n h).1 in
    (or_parts (is_some n.owner || is_some n.task) (any (child_of n.serial) F.nodes) lone).1

-- the tree without the node
abbrev gone : Family → Node → Family
gone F n = family (without serial_of n.serial F.nodes) F.links F.next

-- and without its links
abbrev unlinked : Family → Node → Family
unlinked F n = family (without serial_of n.serial F.nodes) (filter (elsewhere n.serial) F.links) F.next

module _ (F : Family) (n : Node) (ok : Solid F) (h : doomed F ≡ Some n) where
  -- no living node has the doomed one for its parent
  no_child : (b : Born (gone F n)) → b.parent ≡ n.serial → ⊥
  no_child b e =
      let lived = find_without serial_of n.serial b.serial F.nodes b.node b.lives in
      let none = not_any (child_of n.serial) F.nodes (childless F n h) b.node (find_in serial_of b.serial F.nodes b.node lived) in
      both_ways (child_of n.serial b.node) none (ap (λ p. child_of p b.node) (sym e) ∙ b.under)

  solid_gone : Solid (gone F n)
  solid_gone =
      let v : Loose F (gone F n) = record {
        order = ordered_without serial_of 0 F.next n.serial F.nodes ok.frame.order;
        same_next = refl;
        old = λ t n' l. record { was = n'; lived = find_without serial_of n.serial t F.nodes n' l; parents = refl };
        fewer = λ p s k. k;
        roots = λ b s. ap is_some (find_without_other serial_of n.serial b.parent F.nodes (no_child b)) ∙ s;
      } in
      let w : Within F (gone F n) = record { loose = v; flags = λ t n' l. refl; enough = λ k j. j } in
      solid_within F (gone F n) w ok

  solid_unlinked : Solid (unlinked F n)
  solid_unlinked = solid_dropped (elsewhere n.serial) (gone F n) (λ k l j. ap not (ne_eqb l.parent n.serial (λ e. no_child k.born (sym (joins_parent k.born.parent k.born.serial l j) ∙ e)))) solid_gone

  mourns : (o : Option ℕ) → Solid (family (mourned o (without serial_of n.serial F.nodes)) (filter (elsewhere n.serial) F.links) F.next)
  mourns None = solid_unlinked
  mourns (Some p) = solid_changed bereaved (λ _. refl) (λ _. refl) (λ _. refl) p (unlinked F n) solid_unlinked

  pub solid_buried : Solid (buried n F)
  solid_buried = mourns n.parent

one_dies_at : (F : Family) (o : Option Node) → doomed F ≡ o → Solid F → Solid (given o F (λ n. buried n F))
one_dies_at F None h ok = ok
one_dies_at F (Some n) h ok = solid_buried F n ok h

pub solid_one_dies : (F : Family) → Solid F → Solid (one_dies F)
solid_one_dies F ok = one_dies_at F (doomed F) refl ok

solid_repeated : (k : ℕ) (F : Family) → Solid F → Solid (repeated k one_dies F)
solid_repeated zero F ok = ok
solid_repeated (suc k) F ok = solid_repeated k (one_dies F) (solid_one_dies F ok)

pub solid_settled : (F : Family) → Solid F → Solid (settled F)
solid_settled F ok = solid_repeated (length F.nodes) F ok

-- as many deaths as there are nodes are enough
none_doomed_at : (k : ℕ) → ((G : Family) → length G.nodes ≡ k → Solid G → doomed (repeated k one_dies G) ≡ None) → (F : Family) (o : Option Node) → doomed F ≡ o → length F.nodes ≡ suc k → Solid F → doomed (repeated k one_dies (given o F (λ n. buried n F))) ≡ None
none_doomed_at k rest F None h long ok = ap doomed (repeated_none k F h) ∙ h
none_doomed_at k rest F (Some n) h long ok = rest (buried n F) (omega (arith, buried_fewer F.next F n ok.frame.order h, long)) (solid_buried F n ok h)

none_doomed : (k : ℕ) (F : Family) → length F.nodes ≡ k → Solid F → doomed (repeated k one_dies F) ≡ None
none_doomed zero F long ok = ap (λ (l : List Node). first (unkept l) l) (nil_from_length F.nodes long)
none_doomed (suc k) F long ok = none_doomed_at k (none_doomed k) F (doomed F) refl long ok

pub kept_settled : (F : Family) → Solid F → Kept (settled F)
kept_settled F ok = first_none_any (unkept (settled F).nodes) (settled F).nodes (none_doomed (length F.nodes) F refl ok)
