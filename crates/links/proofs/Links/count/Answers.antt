use Rattle.std.proofs.Common.{arith}
use Rattle.std.proofs.lemmas.Grind.{common_steps}
use Rattle.std.proofs.lemmas.List.Filters.{length-filter_more}
use Rattle.links.specs.Link.{from}
use Rattle.links.proofs.Links.count.Goals as goal
use Rattle.links.proofs.Links.count.Goals.{then-link-parent, else-link-parent}

pub loop-link-preserved : goal.loop-link-preserved
loop-link-preserved c =
    let more = length-filter_more (from c.args.parent) c.as_slice-link-items.result.now c.loop-link.link-index (record { parent = 0; child = 0 }) c.loop-link-test.true in
    elim c.if-link-parent.branch [
      | then-link-parent w ↦ grind (arith, common_steps, more, c.as_slice-link-items.ensures.value)
      | else-link-parent w ↦ grind (arith, common_steps, more, c.as_slice-link-items.ensures.value)
    ]
