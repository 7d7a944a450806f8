use Rattle.std.proofs.Common.{◌≡◌, ℕ, ◌+◌, List, [], ◌∷◌, ◌++◌, length, ap, ◌∙◌, arith}
use Rattle.lineage.specs.Family.{family_of}
use Rattle.lineage.specs.Walked.{to_visit}
use Rattle.lineage.proofs.Visits.{unaborted_few, turn_falls, turn_room}
use Rattle.lineage.proofs.Going.{going_start, going_more}
use Rattle.lineage.proofs.walk.Walk.abort.Goals as goal

pub loop-next-init : goal.loop-next-init
loop-next-init c =
    let one = c.push.ensures ∙ ap (λ (l : List ℕ). l ++ c.args.top ∷ []) c.clear.ensures in
    let long = ap length one in
    let none = ap length c.clear-2.ensures in (
      going_start _ (family_of c.args.lineage.now) c.args.top _ _ (omega arith) one c.clear-2.ensures,
      omega (arith, c.args.lineage.now.links.list.few),
      omega (arith, unaborted_few (family_of c.args.lineage.now).nodes, c.args.lineage.now.nodes.table.rows.few),
    )

-- the turn that the loop has made
falls : (c : goal.After-visit) → length (to_visit c.loop-next.self) + length (family_of c.loop-next.lineage).links ≡ (length (to_visit c.visit.new.self) + length (family_of c.visit.new.lineage).links) + 1
falls c = turn_falls c.in-Some.next (family_of c.loop-next.lineage) (family_of c.visit.new.lineage) _ _ _ c.in-Some.ensures c.visit.ensures.waiting c.visit.ensures.after

pub loop-next-smaller : goal.loop-next-smaller
loop-next-smaller c = omega (arith, falls c)

pub loop-next-preserved : goal.loop-next-preserved
loop-next-preserved c =
    let room = turn_room c.in-Some.next (family_of c.loop-next.lineage) (family_of c.visit.new.lineage) _ _ c.visit.ensures.marked c.visit.ensures.after in (
      going_more _ _ _ _ _ (family_of c.loop-next.lineage) _ c.in-Some.next _ _ _ c.loop-next.invariant.0 (falls c) c.in-Some.ensures c.visit.ensures.waiting c.visit.ensures.after c.visit.ensures.marked,
      omega (arith, falls c),
      omega arith,
    )
