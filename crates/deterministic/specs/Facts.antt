-- What is proved of the definitions alone.
use Rattle.std.specs.Prelude.{◌≡◌, ℕ, List}
use Rattle.entry.specs.declared.Entry.{Entry}
use Rattle.arrange.specs.Order.{Order}
use Rattle.deterministic.specs.Model.{Model}
use Rattle.deterministic.specs.Moves.{moves}
use Rattle.deterministic.specs.Calls.{Call, apply, doings_of}
use Rattle.deterministic.specs.Rules.{Turn}
use Rattle.deterministic.specs.Run.{Final}
use Rattle.deterministic.specs.Start.{Settings, started, run}
use Rattle.deterministic.specs.History.{Round}
use Rattle.deterministic.specs.Went.{Went}

-- there is a history by which a run from the start came to this
pub record HasGone {V W : Type 0} (rule : V → ℕ → Model → Turn V) (arrange : W → (ids : List ℕ) → Order W ℕ ids) (s : Settings) (memory : List Entry) (v : V) (w : W) (f : Final V W) : Type 0 where
  pub history : List Round
  pub by : Went rule arrange v w (started s memory) history f.crew f.arranger f.model f.finish

-- whatever the settings, the memory and the values of crew and arranger
abbrev pub EveryRunGoesByTheRules : {V W : Type 0} → (V → ℕ → Model → Turn V) → (W → (ids : List ℕ) → Order W ℕ ids) → Type 0
EveryRunGoesByTheRules {V} {W} rule arrange =
    (s : Settings) (memory : List Entry) (v : V) (w : W) → HasGone rule arrange s memory v w (run rule arrange s memory v w)

-- the executor after calls is the one after their moves
abbrev pub CallsAreMoves : Type 0
CallsAreMoves = (cs : List Call) (m : Model) → moves (doings_of cs m) m ≡ apply cs m
