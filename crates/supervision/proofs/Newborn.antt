-- A new node keeps the facts of a tree.
use Rattle.std.proofs.Common.{◌≡◌, ℕ, ◌+◌, ◌<◌, Bool, true, false, eqb, ltb, [], ◌∷◌, is_some, Some, None, sym, refl, ap, ◌∙◌, subst, inl, inr, arith}
use Rattle.std.proofs.lemmas.Bool.{eq-eqb, eqb-true, lt-ltb, ltb-true, and_parts, and_from, or_left, or_cases, both_ways, false≢true}
use Rattle.keyed.proofs.Orders.{ordered_push, find_within}
use Rattle.keyed.proofs.Finds.{same_some, find_push, find_push_old, find_change_here}
use Rattle.keyed.proofs.Maps.{some_is, is_some_is}
use Rattle.keyed.proofs.Searches.{any_left, any_right, any_parts}
use Rattle.nodes.specs.declared.Node.{Node}
use Rattle.nodes.specs.Node.{serial_of, fresh, with_stale, child_of}
use Rattle.links.specs.Link.{link, joins}
use Rattle.lineage.specs.Family.{Family, node_at}
use Rattle.lineage.specs.Births.{tidied, grown, joined, born}
use Rattle.supervision.specs.Sound.{Lives, has_link, Born, Kin, Led, Joined}
use Rattle.supervision.proofs.Solid.{Frame, Solid, tidied_by, solid_tidied}

-- a living node was made before the next one
pub lives_low : (F : Family) → Frame F → (s : ℕ) (n : Node) → Lives F s n → s < F.next
lives_low F ok s n l = (find_within serial_of 0 F.next s F.nodes n ok.order l).1

-- so was the parent of one
parent_low : (F : Family) → Frame F → (b : Born F) → b.parent < F.next
parent_low F ok b =
    let up = some_is (node_at b.parent F) (ok.rooted b) in
    lives_low F ok b.parent up.0 up.1

-- and what a link leads to
link_low : (F : Family) → Frame F → (l : Joined F) → l.serial < F.next
link_low F ok l = ltb-true l.serial F.next (ok.past l)

-- a node with neither parent nor link
module _ (aborted : Bool) (owner : ℕ) (F : Family) (ok : Solid F) where
  abbrev alone : Node
  alone = fresh F.next None aborted owner

  abbrev after : Family
  after = grown None aborted owner F

  old_born : (b : Born after) → Lives F b.serial b.node
  old_born b = elim (find_push serial_of b.serial F.nodes alone b.node b.lives) [
    | inl l ↦ l
    | inr e ↦ absurd (false≢true (ap (child_of b.parent) (sym e.0) ∙ b.under))
  ]

  as_born : Born after → Born F
  as_born b = record { serial = b.serial; node = b.node; parent = b.parent; lives = old_born b; under = b.under }

  old_parent : (k : Kin after) → Lives F k.born.parent k.above
  unfolding as_born
  old_parent k = elim (find_push serial_of k.born.parent F.nodes alone k.above k.stands) [
    | inl l ↦ l
    | inr e ↦ absurd (omega (arith, parent_low F ok.frame (as_born k.born), e.1))
  ]

  as_kin : Kin after → Kin F
  unfolding as_born
  as_kin k = record { born = as_born k.born; above = k.above; stands = old_parent k }

  pub solid_alone : Solid (grown None aborted owner F)
  unfolding as_born as_kin
  solid_alone = record {
    frame = record {
      order = ordered_push serial_of 0 F.next F.nodes alone ok.frame.order refl;
      rooted = λ b.
          let up = some_is (node_at b.parent F) (ok.frame.rooted (as_born b)) in
          is_some_is (node_at b.parent after) up.0 (find_push_old serial_of b.parent F.nodes alone up.0 up.1);
      honest = λ l. elim (find_push serial_of l.serial F.nodes alone l.node l.lives) [
        | inl o ↦ ok.frame.honest (record { parent = l.parent; serial = l.serial; node = l.node; links = l.links; lives = o })
        | inr e ↦ absurd (omega (arith, link_low F ok.frame (record { parent = l.parent; serial = l.serial; links = l.links }), e.1))
      ];
      past = λ l. lt-ltb l.serial (F.next + 1) (omega (arith, link_low F ok.frame (record { parent = l.parent; serial = l.serial; links = l.links })));
    };
    shielded = λ k a. ok.shielded (as_kin k) a;
    linked = λ k a. ok.linked (as_kin k) a;
  }

-- a child of the node p₀, which lives and is not aborted, linked there
module _ (p₀ owner : ℕ) (F : Family) (m₀ : Node) (ok : Solid F) (up : Lives F p₀ m₀) (quiet : m₀.aborted ≡ false) where
  abbrev child : Node
  child = fresh F.next (Some p₀) false owner

  abbrev tree : Family
  tree = joined p₀ owner F

  -- the new child's parent is p₀
  its_parent : (b : Born tree) → b.node ≡ child → p₀ ≡ b.parent
  its_parent b e = eqb-true p₀ b.parent (ap (child_of b.parent) (sym e) ∙ b.under)

  was_born : (b : Born tree) → Lives F b.serial b.node → Born F
  was_born b l = record { serial = b.serial; node = b.node; parent = b.parent; lives = l; under = b.under }

  -- a parent is never the new child
  was_parent : (k : Kin tree) → Lives F k.born.parent k.above
  unfolding was_born
  was_parent k = elim (find_push serial_of k.born.parent F.nodes child k.above k.stands) [
    | inl l ↦ l
    | inr e ↦ elim (find_push serial_of k.born.serial F.nodes child k.born.node k.born.lives) [
      | inl l ↦ absurd (omega (arith, parent_low F ok.frame (was_born k.born l), e.1))
      | inr f ↦ absurd (omega (arith, lives_low F ok.frame p₀ m₀ up, its_parent k.born f.0, e.1))
    ]
  ]

  was_kin : (k : Kin tree) → Lives F k.born.serial k.born.node → Kin F
  unfolding was_born
  was_kin k l = record { born = was_born k.born l; above = k.above; stands = was_parent k }

  born_rooted : (b : Born tree) → is_some (node_at b.parent tree) ≡ true
  unfolding was_born
  born_rooted b = elim (find_push serial_of b.serial F.nodes child b.node b.lives) [
    | inl l ↦
        let above = some_is (node_at b.parent F) (ok.frame.rooted (was_born b l)) in
        is_some_is (node_at b.parent tree) above.0 (find_push_old serial_of b.parent F.nodes child above.0 above.1)
    | inr f ↦ is_some_is (node_at b.parent tree) m₀ (subst (λ z. node_at z tree ≡ Some m₀) (its_parent b f.0) (find_push_old serial_of p₀ F.nodes child m₀ up))
  ]

  born_honest : (l : Led tree) → child_of l.parent l.node ≡ true
  born_honest l = elim (any_parts (joins l.parent l.serial) F.links (link p₀ F.next ∷ []) l.links) [
    | inl h ↦ elim (find_push serial_of l.serial F.nodes child l.node l.lives) [
      | inl o ↦ ok.frame.honest (record { parent = l.parent; serial = l.serial; node = l.node; links = h; lives = o })
      | inr f ↦ absurd (omega (arith, link_low F ok.frame (record { parent = l.parent; serial = l.serial; links = h }), f.1))
    ]
    | inr h ↦ elim (or_cases (joins l.parent l.serial (link p₀ F.next)) false h) [
      | inr z ↦ absurd (false≢true z)
      | inl t ↦
          let both = and_parts (eqb p₀ l.parent) (eqb F.next l.serial) t in
          elim (find_push serial_of l.serial F.nodes child l.node l.lives) [
            | inl o ↦ absurd (omega (arith, lives_low F ok.frame l.serial l.node o, eqb-true F.next l.serial both.1))
            | inr f ↦ ap (child_of l.parent) f.0 ∙ both.0
          ]
    ]
  ]

  born_past : (l : Joined tree) → ltb l.serial (F.next + 1) ≡ true
  born_past l = elim (any_parts (joins l.parent l.serial) F.links (link p₀ F.next ∷ []) l.links) [
    | inl h ↦ lt-ltb l.serial (F.next + 1) (omega (arith, link_low F ok.frame (record { parent = l.parent; serial = l.serial; links = h })))
    | inr h ↦ elim (or_cases (joins l.parent l.serial (link p₀ F.next)) false h) [
      | inr z ↦ absurd (false≢true z)
      | inl t ↦ lt-ltb l.serial (F.next + 1) (omega (arith, eqb-true F.next l.serial (and_parts (eqb p₀ l.parent) (eqb F.next l.serial) t).1))
    ]
  ]

  born_shielded : (k : Kin tree) → k.above.aborted ≡ true → k.born.node.aborted ≡ true
  unfolding was_born was_kin
  born_shielded k a = elim (find_push serial_of k.born.serial F.nodes child k.born.node k.born.lives) [
    | inl l ↦ ok.shielded (was_kin k l) a
    | inr f ↦
        let is : k.above ≡ m₀ = same_some (subst (λ z. node_at z F ≡ Some k.above) (sym (its_parent k.born f.0)) (was_parent k)) up in
        absurd (both_ways k.above.aborted (ap (λ (n : Node). n.aborted) is ∙ quiet) a)
  ]

  born_linked : (k : Kin tree) → k.above.aborted ≡ false → has_link k.born.parent k.born.serial tree ≡ true
  unfolding was_born was_kin
  born_linked k a = elim (find_push serial_of k.born.serial F.nodes child k.born.node k.born.lives) [
    | inl l ↦ any_left (joins k.born.parent k.born.serial) F.links (link p₀ F.next ∷ []) (ok.linked (was_kin k l) a)
    | inr f ↦ any_right (joins k.born.parent k.born.serial) F.links (link p₀ F.next ∷ []) (or_left (joins k.born.parent k.born.serial (link p₀ F.next)) false (and_from (eqb p₀ k.born.parent) (eqb F.next k.born.serial) (eq-eqb p₀ k.born.parent (its_parent k.born f.0)) (eq-eqb F.next k.born.serial f.1)))
  ]

  pub solid_joined : Solid (joined p₀ owner F)
  solid_joined = record {
    frame = record {
      order = ordered_push serial_of 0 F.next F.nodes child ok.frame.order refl;
      rooted = born_rooted;
      honest = born_honest;
      past = born_past;
    };
    shielded = born_shielded;
    linked = born_linked;
  }

-- tidying leaves a node as it is, but for its count of dead children
lives_tidied : (p : ℕ) (F : Family) (m : Node) → Lives F p m → m.aborted ≡ false → (n : Node) × Lives (tidied p F) p n × (n.aborted ≡ false)
lives_tidied p F m up quiet =
    tidied_by (λ (G : Family). (n : Node) × Lives G p n × (n.aborted ≡ false)) p F (m, up, quiet) (with_stale 0 m, find_change_here serial_of (with_stale 0) (λ _. refl) p F.nodes m up, quiet)

pub solid_born : (p owner : ℕ) (F : Family) (m : Node) → Solid F → Lives F p m → m.aborted ≡ false → Solid (born p owner F)
solid_born p owner F m ok up quiet =
    let n = lives_tidied p F m up quiet in
    solid_joined p owner (tidied p F) n.0 (solid_tidied p F ok) n.1 n.2
