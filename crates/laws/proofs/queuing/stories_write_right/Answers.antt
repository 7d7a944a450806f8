use Rattle.laws.proofs.queuing.stories_write_right.Goals as goal
use Rattle.laws.proofs.QueuesRight.{story_writes_right}

pub returns : goal.returns
returns c = story_writes_right
