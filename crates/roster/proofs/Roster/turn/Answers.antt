-- A step at the row in the table is a step at it in the roll.
use Rattle.std.proofs.Common.{rules}
use Rattle.roster.proofs.Roster.turn.Goals as goal

pub returns : goal.returns
returns g c = λ change computes keeps i. record {
  rows = c.turn.ensures.rows change (λ x y made. computes x y (search rules)) keeps i;
  next = c.turn.ensures.next i;
}
