-- The search for a key by halves.
use Rattle.std.proofs.Common.{length, refl, rules}
use Rattle.keyed.specs.Table.{rows}
use Rattle.keyed.proofs.Halves.{half_above, half_below, half_none, key_here}
use Rattle.keyed.proofs.table.Table.place_by_halves.Goals as goal

pub loop-low-preserved-then-here-key-2 : goal.loop-low-preserved-then-here-key-2
loop-low-preserved-then-here-key-2 g c =
    let here = key_here g.T.Record.key (rows c.args.self.now) _ c.key-here.result _ c.key-here.ensures (search rules) in
    half_above g.T.Record.key _ c.args.key (length (rows c.args.self.now)) (rows c.args.self.now) c.loop-low.low c.loop-low.high c.key-here.result c.args.self.now.order refl c.loop-low.invariant c.loop-low-test.true here c.index-rows-middle.result c.if-here-key-2.true

pub loop-low-preserved : goal.loop-low-preserved
loop-low-preserved g c =
    let here = key_here g.T.Record.key (rows c.args.self.now) _ c.key-here.result _ c.key-here.ensures (search rules) in
    half_below g.T.Record.key _ c.args.key (length (rows c.args.self.now)) (rows c.args.self.now) c.loop-low.low c.loop-low.high c.key-here.result c.args.self.now.order refl c.loop-low.invariant c.loop-low-test.true here c.index-rows-middle.result c.if-here-key.false c.if-here-key-2.false

pub returns : goal.returns
returns g c = half_none g.T.Record.key c.args.key _ (rows c.args.self.now) _ _ c.loop-low.invariant c.loop-low-test.false
