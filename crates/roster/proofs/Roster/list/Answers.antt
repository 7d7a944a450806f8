-- The tasks whose rows pass, row by row.
use Rattle.std.proofs.Common.{refl, rules}
use Rattle.std.proofs.lemmas.Fn.{says_at}
use Rattle.roster.proofs.Listing.{listed_more, listed_all, listed_ascending}
use Rattle.roster.proofs.Roster.list.Goals as goal

pub loop-row-preserved : goal.loop-row-preserved
loop-row-preserved g c = (
  listed_more _ _ _ c.loop-row-test.true _ c.loop-row.invariant.0 c.passes.result (says_at g.P.Fn c.passes.ensures refl) _ (search rules),
  search rules,
)

pub returns-clause-items : goal.returns-clause-items
returns-clause-items g c = rw (← c.as_slice-row-items.ensures.value) (listed_all _ _ _ c.loop-row.invariant.0 c.loop-row-test.false)

pub returns-clause-ascending : goal.returns-clause-ascending
returns-clause-ascending g c = listed_ascending _ _ c.args.self.now.rows.next _ c.loop-row.invariant.0 c.loop-row-test.false (rw c.as_slice-row-items.ensures.value c.args.self.now.rows.order)
