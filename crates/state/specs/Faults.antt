-- What becomes of faults.
use Rattle.std.specs.Prelude.{ℕ, Bool, true, false, cond, not, ◌&&◌, is_none, None}
use Rattle.oneshot.specs.Cell.{held}
use Rattle.deterministic.specs.Model as model
use Rattle.deterministic.specs.Moves.{keep, faults_after}
use Rattle.state.specs.declared.faults.Faults.{Faults}
use Rattle.state.specs.declared.faults.Faults.TheVariants.{Caught, Kept}

-- faults are caught, or the first of them is kept
abbrev pub view : Faults → model.Faults
view Caught = record { caught = true; kept = None }
view (Kept first) = record { caught = false; kept = held first }

-- no fault is kept yet
abbrev pub none_kept : Bool → model.Faults
none_kept caught = record { caught = caught; kept = None }

-- a fault would be kept: it is not caught, and none was kept before
abbrev pub keeps : model.Faults → Bool
keeps f = not f.caught && is_none f.kept

-- after a fault with this code
abbrev pub with_fault : ℕ → model.Faults → model.Faults
with_fault code f = cond (keeps f) (faults_after (keep code) f) f
