use Rattle.std.proofs.Common.{append_assoc, arith}
use Rattle.std.proofs.lemmas.Grind.{common_steps}
use Rattle.links.proofs.Gathering.{children_more}
use Rattle.links.proofs.Links.gather.Goals as goal
use Rattle.links.proofs.Links.gather.Goals.{then-link-parent, else-link-parent}

pub loop-link-preserved : goal.loop-link-preserved
loop-link-preserved g c =
    let more = children_more c.args.parent c.as_slice-link-items.result.now c.loop-link.link-index (record { parent = 0; child = 0 }) c.loop-link-test.true in
    elim c.if-link-parent.branch [
      | then-link-parent w ↦ grind (arith, common_steps, append_assoc, more, c.as_slice-link-items.ensures.value)
      | else-link-parent w ↦ grind (arith, common_steps, append_assoc, more, c.as_slice-link-items.ensures.value)
    ]
