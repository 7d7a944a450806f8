use Rattle.laws.proofs.supervising.stories_are_supervised.Goals as goal
use Rattle.laws.proofs.KinStories.{story_supervised}

pub returns : goal.returns
returns c = story_supervised
