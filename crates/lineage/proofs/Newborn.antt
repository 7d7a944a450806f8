-- What comes before a link, and what a birth makes of a family.
use Rattle.std.proofs.Common.{◌≡◌, ℕ, ◌<◌, ◌≤◌, cond, ltb, List, length, Some, None, Option, refl}
use Rattle.std.proofs.lemmas.Bool.{lt-ltb, le-ltb, cond_both}
use Rattle.keyed.specs.Choices.{given}
use Rattle.keyed.proofs.Finds.{length_change}
use Rattle.nodes.specs.declared.Node.{Node}
use Rattle.nodes.specs.Node.{serial_of, with_stale}
use Rattle.links.specs.declared.Link.{Link}
use Rattle.lineage.specs.Family.{Family, family, node_at}
use Rattle.lineage.specs.Births.{swept, tidied}

pub same_family : {ns ns' : List Node} {ls ls' : List Link} {k k' : ℕ} → ns ≡ ns' → ls ≡ ls' → k ≡ k' → family ns ls k ≡ family ns' ls' k'
same_family p q r = cc

module _ (p : ℕ) (F : Family) (n : Node) (found : node_at p F ≡ Some n) where
  pub tidied_few : n.stale < 32 → tidied p F ≡ F
  tidied_few h = rw found (rw (lt-ltb n.stale 32 h) refl)

  pub tidied_many : 32 ≤ n.stale → tidied p F ≡ swept p F
  tidied_many h = rw found (rw (le-ltb n.stale 32 h) refl)

-- tidying changes neither how many nodes there are nor the next serial
pub record Tidied (F G : Family) : Type 0 where
  pub many : length G.nodes ≡ length F.nodes
  pub next : G.next ≡ F.next

tidied_tells_at : (p : ℕ) (F : Family) (o : Option Node) → Tidied F (given o F (λ n. cond (ltb n.stale 32) F (swept p F)))
tidied_tells_at p F None = record { many = refl; next = refl }
tidied_tells_at p F (Some n) =
    cond_both (ltb n.stale 32) F (swept p F) (Tidied F)
    (λ _. record { many = refl; next = refl })
    (λ _. record { many = length_change serial_of (with_stale 0) p F.nodes; next = refl })

pub tidied_tells : (p : ℕ) (F : Family) → Tidied F (tidied p F)
tidied_tells p F = tidied_tells_at p F (node_at p F)
