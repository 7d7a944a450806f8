-- The record with the key stands between low and high if there is one.
use Rattle.std.proofs.Common.{◌-◌, length}
use Rattle.keyed.specs.Table.{rows}
use Rattle.keyed.proofs.Halves.{Halving}
use Rattle.keyed.proofs.table.Table.place_by_halves.Given as goal

abbrev pub invariant-loop-low : goal.invariant-loop-low
invariant-loop-low g l = Halving g.T.Record.key l.key (rows l.self) (length (rows l.self)) l.low l.high

abbrev pub decreases-loop-low : goal.decreases-loop-low
decreases-loop-low g l = l.high - l.low
