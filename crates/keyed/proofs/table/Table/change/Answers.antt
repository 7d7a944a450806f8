-- What the step makes of the record at the place is written there, which is a change by its key.
use Rattle.std.proofs.Common.{sym, rules}
use Rattle.keyed.specs.Table.{rows}
use Rattle.keyed.proofs.Places.{change_none}
use Rattle.keyed.proofs.Tables.{written_ordered, key_kept, stepped}
use Rattle.keyed.proofs.table.Table.change.Goals as goal

pub invariant_of-self : goal.invariant_of-self
invariant_of-self g c = record { order = written_ordered g.T.Record.key _ c.args.key (rows c.args.self.now) _ _ c.step.result c.args.self.now.order c.in-Some.ensures.0 c.in-Some.ensures.1 (key_kept g.T.Record.key _ (rows c.args.self.now) _ _ _ c.in-Some.ensures.1 (c.requires.keys _ _ c.step.ensures) (search rules)) c.put.ensures }

pub returns-in-Some-clause-rows : goal.returns-in-Some-clause-rows
returns-in-Some-clause-rows g c = λ f gives. stepped g.T.Record.key f _ c.args.key _ _ _ _ _ c.args.self.now.order c.in-Some.ensures.0 c.in-Some.ensures.1 (search rules) (gives _ _ c.step.ensures) c.put.ensures

pub returns-in_default-clause-rows : goal.returns-in_default-clause-rows
returns-in_default-clause-rows g c = λ f gives. sym (change_none g.T.Record.key f _ _ c.in_default.ensures)
