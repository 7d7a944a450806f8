-- Every run is lawful.
use Rattle.std.proofs.Common.{ℕ, List}
use Rattle.entry.specs.declared.Entry.{Entry}
use Rattle.arrange.specs.Order.{Order}
use Rattle.deterministic.specs.Model.{Model}
use Rattle.deterministic.specs.Rules.{Turn}
use Rattle.deterministic.specs.Run.{Finish}
use Rattle.deterministic.specs.Start.{Settings, started, run}
use Rattle.deterministic.specs.History.{Round}
use Rattle.deterministic.proofs.Derive.{run_derives}
use Rattle.laws.specs.Story.{Story}
use Rattle.laws.specs.Lawful.{Lawful, EveryHistoryIsLawful, EveryRunIsLawful}
use Rattle.laws.proofs.Story.{went_story}
use Rattle.laws.proofs.QueuesRight.{story_queues_right, story_writes_right}
use Rattle.laws.proofs.RingsRight.{story_rings_right}
use Rattle.laws.proofs.KinStories.{story_supervised}

-- a story from the start is lawful
pub story_lawful : (s : Settings) (memory : List Entry) (rounds : List Round) (n : Model) (f : Finish) → Story (started s memory) rounds n f → Lawful s memory rounds n f
story_lawful s memory rounds n f story = record {
  queuing = story_queues_right s memory rounds n f story;
  ringing = story_rings_right s memory rounds n f story;
  ledger = story_writes_right s memory rounds n f story;
  supervision = story_supervised s memory rounds n f story;
}

module _ {V W : Type 0} (rule : V → ℕ → Model → Turn V) (arrange : W → (ids : List ℕ) → Order W ℕ ids) where
  pub histories_lawful : EveryHistoryIsLawful rule arrange
  histories_lawful s memory v u w x rounds n f by = story_lawful s memory rounds n f (went_story rule arrange by)

  pub runs_lawful : EveryRunIsLawful rule arrange
  runs_lawful s memory v w =
      let gone = run_derives rule arrange s memory v w in
      let f = run rule arrange s memory v w in
      record {
        history = gone.history;
        by = gone.by;
        keeps = histories_lawful s memory v f.crew w f.arranger gone.history f.model f.finish gone.by;
      }
