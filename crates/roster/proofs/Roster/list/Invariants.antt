-- The buffer has the tasks of the rows so far that pass, and its capacity stays.
use Rattle.std.proofs.Common.{◌≡◌}
use Rattle.std.specs.Fn.{FnReturnsAt}
use Rattle.roster.proofs.Listing.{Listed}
use Rattle.roster.proofs.Roster.list.Given as goal

abbrev pub invariant-loop-row : goal.invariant-loop-row
invariant-loop-row g l =
    Listed (FnReturnsAt g.P.Fn l.passes) l.row-items l.row-index (g.B.Buffer.items l.ids)
    × (g.B.Buffer.capacity l.ids ≡ g.B.Buffer.capacity l.initial.ids)
