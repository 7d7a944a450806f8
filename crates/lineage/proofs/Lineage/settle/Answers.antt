use Rattle.std.proofs.Common.{length, sym, ap, ◌∙◌, arith}
use Rattle.lineage.specs.Family.{Family, family_of}
use Rattle.lineage.proofs.Burials.{buried_fewer, settle_more, settle_end}
use Rattle.lineage.proofs.Lineage.settle.Goals as goal

pub loop-node-smaller : goal.loop-node-smaller
loop-node-smaller c =
    let fewer = buried_fewer _ (family_of c.loop-node.self) c.in-Some.node c.loop-node.self.nodes.table.order (sym c.in-Some.ensures) in
    let after = ap (λ (f : Family). length f.nodes) c.bury.ensures in
    omega arith

pub loop-node-preserved : goal.loop-node-preserved
loop-node-preserved c = settle_more _ (family_of c.loop-node.self) (family_of c.bury.new.self) c.in-Some.node c.loop-node.self.nodes.table.order (sym c.in-Some.ensures) c.bury.ensures ∙ c.loop-node.invariant

pub returns : goal.returns
returns c = sym (settle_end (family_of c.loop-node.self) (sym c.in_default.ensures)) ∙ c.loop-node.invariant
