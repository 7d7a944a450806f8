-- A removal at the place of a record is a removal by its key.
use Rattle.std.proofs.Common.{sym, refl}
use Rattle.keyed.proofs.Places.{without_removal, without_none, ordered_removal}
use Rattle.keyed.proofs.table.Table.remove.Goals as goal

pub invariant_of-self : goal.invariant_of-self
invariant_of-self g c = record { order = ordered_removal g.T.Record.key _ _ _ _ _ c.args.self.now.order refl c.in-Some.ensures.0 c.in-Some.ensures.1 _ c.remove.result c.remove.ensures.rest }

pub returns-in-Some-clause-rows : goal.returns-in-Some-clause-rows
returns-in-Some-clause-rows g c = without_removal g.T.Record.key _ _ _ _ _ c.args.self.now.order refl c.in-Some.ensures.0 c.in-Some.ensures.1 _ c.remove.result c.remove.ensures.rest

pub returns-in_default-clause-rows : goal.returns-in_default-clause-rows
returns-in_default-clause-rows g c = sym (without_none g.T.Record.key _ _ c.in_default.ensures)
