-- The new record stands at the end, and its key is the highest.
use Rattle.std.proofs.Common.{◌+◌, ap}
use Rattle.keyed.proofs.Tables.{added_ordered}
use Rattle.keyed.proofs.table.Table.push.Goals as goal

pub invariant_of-self : goal.invariant_of-self
invariant_of-self g c = record { order = added_ordered g.T.Record.key _ _ _ _ c.args.row c.args.self.now.order c.requires.rises (ap (λ n. n + 1) c.key.ensures) c.push.ensures }
