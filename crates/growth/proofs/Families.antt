-- How many nodes of a tree pass a test that looks neither at the flag nor at the count of dead children, after births, deaths
-- and cascades.
use Rattle.std.proofs.Common.{◌≡◌, ℕ, zero, suc, ◌+◌, ◌-◌, ◌^◌, ◌≤◌, min, Bool, true, false, List, [], ◌∷◌, ◌++◌, map, reverse, length, Some, None, Option, refl, ap, ◌∙◌, arith}
use Rattle.std.proofs.lemmas.Bool.{cond_both}
use Rattle.keyed.specs.Keyed.{without}
use Rattle.keyed.specs.Choices.{given}
use Rattle.nodes.specs.declared.Node.{Node}
use Rattle.nodes.specs.Node.{serial_of, fresh, with_aborted, with_owner, with_stale, bereaved, taken}
use Rattle.lineage.specs.Family.{Family, family, node_at, changed, aborted_at}
use Rattle.lineage.specs.Births.{tidied, orphaned, born}
use Rattle.lineage.specs.Deaths.{mourned, buried, doomed, one_dies, repeated, settled}
use Rattle.lineage.specs.Cascade.{Step, condemned, passed, struck, step_at, step, walk, cascaded}
use Rattle.supervision.specs.Calls.{with_child, seated, closed}
use Rattle.supervision.proofs.Solid.{tidied_by}
use Rattle.deterministic.proofs.Countings.{weight, counted, NeverGains, Keeps, Ends, counted_map, counted_push, counted_change, counted_change_same, counted_without, passes, counted_ended, passes_change, passes_push}

-- the test looks neither at the flag nor at the count of dead children
pub record Steady (test : Node → Bool) : Type 0 where
  pub flags : (b : Bool) → Keeps test (with_aborted b)
  pub stales : (k : ℕ) → Keeps test (with_stale k)

-- how many nodes of the tree pass the test
abbrev pub among : (Node → Bool) → Family → ℕ
among test F = counted test F.nodes

module _ (test : Node → Bool) (steady : Steady test) where
  keeps_bereaved : Keeps test bereaved
  keeps_bereaved n = steady.stales (min (n.stale + 1) (2 ^ 64 - 1)) n

  keeps_condemned : Keeps test condemned
  keeps_condemned n = steady.stales 0 (with_aborted true n) ∙ steady.flags true n

  among_mourned : (o : Option ℕ) (ns : List Node) → counted test (mourned o ns) ≡ counted test ns
  among_mourned None ns = refl
  among_mourned (Some p) ns = counted_change_same test serial_of bereaved keeps_bereaved p ns

  among_one_at : (F : Family) (o : Option Node) → among test (given o F (λ n. buried n F)) ≤ among test F
  among_one_at F None = omega arith
  among_one_at F (Some n) =
      let rest = without serial_of n.serial F.nodes in
      omega (arith, among_mourned n.parent rest, counted_without test serial_of n.serial F.nodes)

  among_repeated : (k : ℕ) (F : Family) → among test (repeated k one_dies F) ≤ among test F
  among_repeated zero F = omega arith
  among_repeated (suc k) F = omega (arith, among_repeated k (one_dies F), among_one_at F (doomed F))

  -- the dead are no longer counted
  pub among_settled : (F : Family) → among test (settled F) ≤ among test F
  among_settled F = among_repeated (length F.nodes) F

  among_step : (s : ℕ) (o : Option Node) (F : Family) → among test (step_at s o F).after ≡ among test F
  among_step s None F = refl
  among_step s (Some n) F = cond_both n.aborted (passed F) (struck s n F) (λ (v : Step). among test v.after ≡ among test F) (λ _. refl) (λ _. counted_change_same test serial_of condemned keeps_condemned s F.nodes)

  among_walk : (k : ℕ) (wait : List ℕ) (F : Family) → among test (walk k wait F).0 ≡ among test F
  among_walk zero wait F = refl
  among_walk (suc k) [] F = refl
  among_walk (suc k) (s ∷ wait) F = among_walk k (reverse (step s F).below ++ wait) (step s F).after ∙ among_step s (node_at s F) F

  -- a cascade sets flags alone
  pub among_cascaded : (s : ℕ) (F : Family) → among test (cascaded s F).0 ≡ among test F
  among_cascaded s F = among_walk (1 + length F.links) (s ∷ []) F

  among_tidied : (p : ℕ) (F : Family) → among test (tidied p F) ≡ among test F
  among_tidied p F = tidied_by (λ (G : Family). among test G ≡ among test F) p F refl (counted_change_same test serial_of (with_stale 0) (steady.stales 0) p F.nodes)

  passes_tidied : (p s : ℕ) (F : Family) → passes test serial_of s F.nodes ≡ true → passes test serial_of s (tidied p F).nodes ≡ true
  passes_tidied p s F h = tidied_by (λ (G : Family). passes test serial_of s G.nodes ≡ true) p F h (passes_change test serial_of (with_stale 0) (λ _. refl) (steady.stales 0) p s F.nodes h)

  -- each node is changed, and what nothing keeps alive then dies
  pub among_mapped : (g : Node → Node) → NeverGains test g → (F : Family) → among test (settled (family (map g F.nodes) F.links F.next)) ≤ among test F
  among_mapped g less F = omega (arith, among_settled (family (map g F.nodes) F.links F.next), counted_map test g less F.nodes)

  pub among_closed : NeverGains test (with_owner None) → (s : ℕ) (F : Family) → among test (closed s F) ≤ among test F
  among_closed less s F = omega (arith, among_settled (changed (with_owner None) s F), counted_change test serial_of (with_owner None) less s F.nodes)

  -- the close of a node that passes because its context is open
  pub among_closed_held : Ends test (with_owner None) → (s : ℕ) (F : Family) → passes test serial_of s F.nodes ≡ true → among test (closed s F) + 1 ≤ among test F
  among_closed_held none s F h = omega (arith, among_settled (changed (with_owner None) s F), counted_ended test serial_of (with_owner None) none s F.nodes h)

  -- a new node passes or not, whatever its serial, its parent and its holder
  module _ (b : Bool) (new : (serial : ℕ) (parent : Option ℕ) (aborted : Bool) (owner : ℕ) → test (fresh serial parent aborted owner) ≡ b) where
    among_fresh : (serial : ℕ) (parent : Option ℕ) (aborted : Bool) (owner : ℕ) (ns : List Node) → counted test (ns ++ fresh serial parent aborted owner ∷ []) ≡ counted test ns + weight b
    among_fresh serial parent aborted owner ns = counted_push test ns (fresh serial parent aborted owner) ∙ ap (λ c. counted test ns + weight c) (new serial parent aborted owner)

    among_born : (p owner : ℕ) (F : Family) → among test (born p owner F) ≡ among test F + weight b
    among_born p owner F = among_fresh (tidied p F).next (Some p) false owner (tidied p F).nodes ∙ ap (λ k. k + weight b) (among_tidied p F)

    pub among_child : (task s : ℕ) (F : Family) → among test (with_child task s F) ≡ among test F + weight b
    among_child task s F =
        cond_both (aborted_at s F) (orphaned task F) (born s task F) (λ (G : Family). among test G ≡ among test F + weight b)
        (λ _. among_fresh F.next None true task F.nodes)
        (λ _. among_born s task F)

    -- who is seated does not come to pass
    pub among_seated : (s task : ℕ) → NeverGains test (taken task) → (F : Family) → among test (seated s task F) ≤ among test F + weight b
    among_seated s task less F = omega (arith, counted_change test serial_of (taken task) less s (born s task F).nodes, among_born s task F)

    -- the node where a task is seated passed, and no longer does
    pub among_seated_held : (s task : ℕ) → Ends test (taken task) → (F : Family) → passes test serial_of s F.nodes ≡ true → among test (seated s task F) + 1 ≤ among test F + weight b
    among_seated_held s task none F h =
        let tidy = tidied s F in
        let still = passes_push test serial_of s tidy.nodes (fresh tidy.next (Some s) false task) (passes_tidied s s F h) in
        omega (arith, counted_ended test serial_of (taken task) none s (born s task F).nodes still, among_born s task F)
