-- The steps of dying.
use Rattle.std.proofs.Common.{◌≡◌, ℕ, zero, suc, true, List, length, Some, None, Option, sym, refl, ap, ◌∙◌}
use Rattle.keyed.specs.Keyed.{ordered, without}
use Rattle.keyed.specs.Choices.{given}
use Rattle.keyed.proofs.Finds.{in_find, length_change, length_without_found}
use Rattle.keyed.proofs.Searches.{first_in}
use Rattle.nodes.specs.declared.Node.{Node}
use Rattle.nodes.specs.Node.{serial_of, bereaved, unkept}
use Rattle.links.specs.declared.Link.{Link}
use Rattle.lineage.specs.Family.{Family, family, node_at}
use Rattle.lineage.specs.Deaths.{mourned, buried, doomed, one_dies, repeated, settled}
use Rattle.lineage.proofs.Newborn.{same_family}

-- what is doomed lives
pub doomed_lives : (hi : ℕ) (F : Family) (n : Node) → ordered serial_of 0 hi F.nodes ≡ true → doomed F ≡ Some n → node_at n.serial F ≡ Some n
doomed_lives hi F n o h = in_find serial_of 0 hi F.nodes n o (first_in (unkept F.nodes) F.nodes n h).0

length_mourned : (o : Option ℕ) (ns : List Node) → length (mourned o ns) ≡ length ns
length_mourned None ns = refl
length_mourned (Some p) ns = length_change serial_of bereaved p ns

pub buried_fewer : (hi : ℕ) (F : Family) (n : Node) → ordered serial_of 0 hi F.nodes ≡ true → doomed F ≡ Some n → suc (length (buried n F).nodes) ≡ length F.nodes
buried_fewer hi F n o h =
    ap suc (length_mourned n.parent (without serial_of n.serial F.nodes))
    ∙ length_without_found serial_of 0 hi n.serial F.nodes n o (doomed_lives hi F n o h)

-- a turn of the loop: what is left to be done is what was
pub settle_more : (hi : ℕ) (F G : Family) (n : Node) → ordered serial_of 0 hi F.nodes ≡ true → doomed F ≡ Some n → G ≡ buried n F → settled G ≡ settled F
settle_more hi F G n o h is =
    let fewer = buried_fewer hi F n o h in
    let one : one_dies F ≡ buried n F = ap (λ (d : Option Node). given d F (λ m. buried m F)) h in
    ap settled is
    ∙ (ap (λ (x : Family). repeated (length (buried n F).nodes) one_dies x) (sym one)
    ∙ ap (λ k. repeated k one_dies F) fewer)

pub repeated_none : (k : ℕ) (F : Family) → doomed F ≡ None → repeated k one_dies F ≡ F
repeated_none zero F h = refl
repeated_none (suc k) F h =
    let same : one_dies F ≡ F = ap (λ (d : Option Node). given d F (λ m. buried m F)) h in
    ap (λ (x : Family). repeated k one_dies x) same ∙ repeated_none k F h

pub settle_end : (F : Family) → doomed F ≡ None → settled F ≡ F
settle_end F h = repeated_none (length F.nodes) F h

-- what is left after one more change of the nodes
pub settled_from : {H : Family} (ns ns' : List Node) (ls : List Link) (k k' : ℕ) → H ≡ settled (family ns ls k) → ns ≡ ns' → k ≡ k' → H ≡ settled (family ns' ls k')
settled_from ns ns' ls k k' e nodes next = e ∙ ap settled (same_family nodes refl next)
