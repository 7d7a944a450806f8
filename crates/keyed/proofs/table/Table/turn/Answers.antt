-- What the step makes of the record at the place is written there, if its key stays: a change by its key.
use Rattle.std.proofs.Common.{sym, rules}
use Rattle.keyed.proofs.Places.{change_none}
use Rattle.keyed.proofs.Tables.{written_ordered, stepped}
use Rattle.keyed.proofs.table.Table.turn.Goals as goal

pub invariant_of-self : goal.invariant_of-self
invariant_of-self g c = record { order = written_ordered g.T.Record.key _ c.args.key _ _ _ c.step-turned.result c.args.self.now.order c.in-Some.ensures.0 c.in-Some.ensures.1 (search rules) c.put.ensures }

pub returns-then-key-clause-rows : goal.returns-then-key-clause-rows
returns-then-key-clause-rows g c = λ f gives keeps. stepped g.T.Record.key f _ c.args.key _ _ _ _ _ c.args.self.now.order c.in-Some.ensures.0 c.in-Some.ensures.1 (search rules) (gives _ _ c.step-turned.ensures) c.put.ensures

pub returns-in_default-clause-rows : goal.returns-in_default-clause-rows
returns-in_default-clause-rows g c = λ f gives keeps. sym (change_none g.T.Record.key f _ _ c.in_default.ensures)
