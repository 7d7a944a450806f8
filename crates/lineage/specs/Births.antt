-- How a node is born.
use Rattle.std.specs.Prelude.{ℕ, ◌+◌, Bool, true, false, cond, [], ◌∷◌, ◌++◌, length, Some, None, filter, Option, nat_lt}
use Rattle.keyed.specs.Keyed.{change}
use Rattle.keyed.specs.Choices.{given}
use Rattle.nodes.specs.Node.{serial_of, fresh, with_stale}
use Rattle.links.specs.Link.{link, survives}
use Rattle.lineage.specs.Family.{Family, family, node_at}

-- the dead links of p are dropped, and its count of dead children starts anew
abbrev pub swept : ℕ → Family → Family
swept p F = family (change serial_of (with_stale 0) p F.nodes) (filter (survives p F.nodes) F.links) F.next

-- what comes before a link below p: with 32 or more dead children, its dead links are dropped
abbrev pub tidied : ℕ → Family → Family
tidied p F = given (node_at p F) F (λ n. cond (nat_lt n.stale 32) F (swept p F))

-- of 256 links one is free for a child of p, once dead links are dropped where they would be
abbrev pub link_free : ℕ → Family → Bool
link_free p F = nat_lt (length (tidied p F).links) 256

-- a new node whose context the owner holds, with no link
abbrev pub grown : Option ℕ → Bool → ℕ → Family → Family
grown parent aborted owner F = family (F.nodes ++ fresh F.next parent aborted owner ∷ []) F.links (F.next + 1)

-- below an aborted node a new one is aborted, and has neither parent nor link
abbrev pub orphaned : ℕ → Family → Family
orphaned owner F = grown None true owner F

-- below any other node p it is its child, and linked there
abbrev pub joined : ℕ → ℕ → Family → Family
joined p owner F = family (F.nodes ++ fresh F.next (Some p) false owner ∷ []) (F.links ++ link p F.next ∷ []) (F.next + 1)

-- a child of p is born
abbrev pub born : ℕ → ℕ → Family → Family
born p owner F = joined p owner (tidied p F)
