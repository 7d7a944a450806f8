use Rattle.std.proofs.Common.{sym, refl, ap, ◌∙◌, arith}
use Rattle.keyed.proofs.Finds.{put_found}
use Rattle.nodes.specs.Node.{serial_of}
use Rattle.nodes.specs.Living.{living}
use Rattle.lineage.specs.Family.{family_of}
use Rattle.lineage.specs.Cascade.{Step, condemned}
use Rattle.lineage.proofs.Newborn.{same_family}
use Rattle.lineage.proofs.Visits.{step_struck, unaborted_hit}
use Rattle.lineage.proofs.walk.Walk.visit.Goals as goal

pub note-requires : goal.note-requires
note-requires c =
    let hit = unaborted_hit c.args.serial (living c.args.lineage.now.nodes) c.in-Some.node (sym c.in-Some.ensures) c.if-node.false in
    omega arith

pub returns-clause-after : goal.returns-clause-after
returns-clause-after c =
    let found = sym c.in-Some.ensures in
    let hit = step_struck c.args.serial (family_of c.args.lineage.now) c.in-Some.node found c.if-node.false in
    let nodes = put_found serial_of condemned 0 _ _ _ _ c.in-Some.node _ c.args.lineage.now.nodes.table.order found refl refl c.put.ensures.nodes in
    same_family nodes c.drain.ensures c.put.ensures.next ∙ ap (λ (v : Step). v.after) (sym hit)
