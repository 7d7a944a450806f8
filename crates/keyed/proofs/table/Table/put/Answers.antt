-- A write at the place of a record is a change by its key.
use Rattle.std.proofs.Common.{sym}
use Rattle.keyed.proofs.Places.{change_none}
use Rattle.keyed.proofs.Tables.{written_ordered, written_changed}
use Rattle.keyed.proofs.table.Table.put.Goals as goal

pub invariant_of-self : goal.invariant_of-self
invariant_of-self g c = record { order = written_ordered g.T.Record.key _ c.key.result _ _ _ c.args.row c.args.self.now.order c.in-Some.ensures.0 c.in-Some.ensures.1 (sym c.key.ensures) c.put.ensures }

pub returns-in-Some-clause-rows : goal.returns-in-Some-clause-rows
returns-in-Some-clause-rows g c = rw (← c.key.ensures) (written_changed g.T.Record.key _ c.key.result _ _ _ c.args.row c.args.self.now.order c.in-Some.ensures.0 c.in-Some.ensures.1 (sym c.key.ensures) c.put.ensures)

pub returns-in_default-clause-rows : goal.returns-in_default-clause-rows
returns-in_default-clause-rows g c = rw (← c.key.ensures) (sym (change_none g.T.Record.key (λ _. c.args.row) _ _ c.in_default.ensures))
