use Rattle.laws.proofs.queuing.stories_queue_right.Goals as goal
use Rattle.laws.proofs.QueuesRight.{story_queues_right}

pub returns : goal.returns
returns c = story_queues_right
