use Rattle.laws.proofs.ringing.stories_ring_right.Goals as goal
use Rattle.laws.proofs.RingsRight.{story_rings_right}

pub returns : goal.returns
returns c = story_rings_right
