-- The record at the place is the one that the key finds.
use Rattle.std.proofs.Common.{sym, refl, rules}
use Rattle.keyed.proofs.Places.{find_read, find_none}
use Rattle.keyed.proofs.table.Table.find.Goals as goal

pub returns-in_err-at : goal.returns-in_err-at
returns-in_err-at g c =
    let none = sym (find_none g.T.Record.key _ _ c.in_err-at.ensures) in
    search rules

pub returns : goal.returns
returns g c = sym (find_read g.T.Record.key _ _ _ _ _ c.args.self.now.order refl c.in_ok-at.ensures.0 c.in_ok-at.ensures.1 _ (search rules))
