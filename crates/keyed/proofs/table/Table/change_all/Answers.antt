use Rattle.std.proofs.Common.{◌∙◌}
use Rattle.keyed.proofs.Maps.{ordered_zipped}
use Rattle.keyed.proofs.table.Table.change_all.Goals as goal

pub invariant_of-self : goal.invariant_of-self
invariant_of-self g c = record { order = ordered_zipped _ g.T.Record.key c.requires.keys _ _ _ _ c.change_all.ensures ∙ c.args.self.now.order }
