use Rattle.std.proofs.Common.{arith}
use Rattle.std.proofs.lemmas.Grind.{common_steps}
use Rattle.std.proofs.lemmas.List.Filters.{length-filter_more}
use Rattle.nodes.specs.Living.{living}
use Rattle.links.specs.Link.{survives}
use Rattle.links.proofs.Links.surviving.Goals as goal
use Rattle.links.proofs.Links.surviving.Goals.{then-survives, else-survives}

pub loop-link-preserved : goal.loop-link-preserved
loop-link-preserved c =
    let more = length-filter_more (survives c.args.parent (living c.args.nodes.now)) c.as_slice-link-items.result.now c.loop-link.link-index (record { parent = 0; child = 0 }) c.loop-link-test.true in
    elim c.if-survives.branch [
      | then-survives w ↦ grind (arith, common_steps, more, c.as_slice-link-items.ensures.value, c.survives.ensures)
      | else-survives w ↦ grind (arith, common_steps, more, c.as_slice-link-items.ensures.value, c.survives.ensures)
    ]
