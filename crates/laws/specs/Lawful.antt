-- The laws of every run.
use Rattle.std.specs.Prelude.{ℕ, List}
use Rattle.entry.specs.declared.Entry.{Entry}
use Rattle.arrange.specs.Order.{Order}
use Rattle.deterministic.specs.Model.{Model}
use Rattle.deterministic.specs.Rules.{Turn}
use Rattle.deterministic.specs.Run.{Finish, Final}
use Rattle.deterministic.specs.Start.{Settings, started, run}
use Rattle.deterministic.specs.History.{Round}
use Rattle.deterministic.specs.Went.{Went}
use Rattle.laws.specs.Queuing.{QueuesRight, WritesRight}
use Rattle.laws.specs.Ringing.{RingsRight}
use Rattle.laws.specs.Supervised.{Supervised}

-- what a run from these settings over this memory keeps: its rounds, the executor at its end, and how it ended
pub record Lawful (s : Settings) (memory : List Entry) (rounds : List Round) (n : Model) (f : Finish) : Type 0 where
  -- each queuing is dealt once, in the next round, or is undealt at the end
  pub queuing : QueuesRight rounds n
  -- each alarm rings once and when it should, and nothing but a close moves the clock
  pub ringing : RingsRight s.start s.cycle rounds n
  -- the ledger tells what happened, and the totals are read off it
  pub ledger : WritesRight memory rounds n f
  -- no body is called of a task that was marked or has ended, or is below an ended one, and what is told of the tree is so
  pub supervision : Supervised rounds n

-- the rules of a round lead to nothing else, whatever crew and arranger do
abbrev pub EveryHistoryIsLawful : {V W : Type 0} → (V → ℕ → Model → Turn V) → (W → (ids : List ℕ) → Order W ℕ ids) → Type 0
EveryHistoryIsLawful {V} {W} rule arrange =
    (s : Settings) (memory : List Entry) (v u : V) (w x : W) (rounds : List Round) (n : Model) (f : Finish) →
    Went rule arrange v w (started s memory) rounds u x n f → Lawful s memory rounds n f

-- a run from the start came to this by a history that goes by the rules and keeps the laws
pub record LawfulRun {V W : Type 0} (rule : V → ℕ → Model → Turn V) (arrange : W → (ids : List ℕ) → Order W ℕ ids) (s : Settings) (memory : List Entry) (v : V) (w : W) (f : Final V W) : Type 0 where
  pub history : List Round
  pub by : Went rule arrange v w (started s memory) history f.crew f.arranger f.model f.finish
  pub keeps : Lawful s memory history f.model f.finish

-- whatever the settings, the memory and the values of crew and arranger
abbrev pub EveryRunIsLawful : {V W : Type 0} → (V → ℕ → Model → Turn V) → (W → (ids : List ℕ) → Order W ℕ ids) → Type 0
EveryRunIsLawful {V} {W} rule arrange =
    (s : Settings) (memory : List Entry) (v : V) (w : W) → LawfulRun rule arrange s memory v w (run rule arrange s memory v w)
