use Rattle.std.proofs.Common.{sym, refl, ◌∙◌}
use Rattle.keyed.proofs.Finds.{put_found}
use Rattle.nodes.specs.Node.{serial_of, with_stale}
use Rattle.lineage.specs.Family.{family_of}
use Rattle.lineage.proofs.Newborn.{same_family, tidied_many}
use Rattle.lineage.proofs.Lineage.tidy.Goals as goal

pub returns-then-node-ge-STALE_LINKS : goal.returns-then-node-ge-STALE_LINKS
returns-then-node-ge-STALE_LINKS c =
    let found = sym c.in-Some.ensures in
    let swept_nodes = put_found serial_of (with_stale 0) 0 _ _ _ _ c.in-Some.node _ c.args.self.now.nodes.table.order found refl refl c.put.ensures.nodes in
    same_family swept_nodes c.sweep.ensures c.put.ensures.next ∙ sym (tidied_many c.args.parent (family_of c.args.self.now) c.in-Some.node found c.if-node-ge-STALE_LINKS.true)
