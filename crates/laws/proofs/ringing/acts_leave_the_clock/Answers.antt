use Rattle.laws.proofs.ringing.acts_leave_the_clock.Goals as goal
use Rattle.laws.proofs.Clock.{path_clock}

pub returns : goal.returns
returns c = path_clock
