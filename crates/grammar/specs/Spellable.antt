-- Which plans a script can say, and what is read from their spelling. Assumes nothing.
use Rattle.std.specs.Prelude.{◌≡◌, ℕ, ◌-◌, ◌^◌, ◌<◌, true, List, [], ◌∷◌, ℤ, pos, neg_ℤ, ◌≤ℤ◌, ◌<ℤ◌, Some, None, Ok, Option}
use Rattle.tokens.specs.Tokens.{is_word}
use Rattle.forms.specs.Meaning.{Act, sleep, spawn, wake, abort, stop, await, done, fault, Task, Plan}
use Rattle.grammar.specs.Reading.{reading}
use Rattle.grammar.specs.Reads.{no_break, NamesStand, Within}
use Rattle.grammar.specs.Spelled.{spelled, placed}

-- the number fits so many bits
abbrev pub Fits : ℕ → ℕ → Type 0
Fits bits n = n < 2 ^ bits

-- the number fits so many bits, one of them for its sign
abbrev pub FitsSigned : ℕ → ℤ → Type 0
FitsSigned bits z = (neg_ℤ (pos (2 ^ (bits - 1))) ≤ℤ z) × (z <ℤ pos (2 ^ (bits - 1)))

-- the bytes can be a name: one or more, none of them a space, a bracket or LF
abbrev pub IsName : List ℕ → Type 0
IsName w = (is_word w ≡ true) × (no_break w ≡ true)

-- the number of the act fits what it fills, or the bytes that it uses as a name can be one
abbrev pub SpellableAct : Act → Type 0
SpellableAct (sleep n) = Fits 64 n
SpellableAct (spawn w) = IsName w
SpellableAct (wake w) = IsName w
SpellableAct (abort w) = IsName w
SpellableAct (stop z) = FitsSigned 32 z
SpellableAct await = Unit {0}
SpellableAct (done z) = FitsSigned 64 z
SpellableAct (fault n) = Fits 32 n

-- each act can be spelled
unfoldable pub SpellableActs : List Act → Type 0
SpellableActs [] = Unit {0}
SpellableActs (a ∷ more) = SpellableAct a × SpellableActs more

-- the task has a name that can be one, and its acts can be spelled
abbrev pub SpellableTask : Task → Type 0
SpellableTask t = IsName t.name × SpellableActs t.acts

-- each task can be spelled
unfoldable pub SpellableTasks : List Task → Type 0
SpellableTasks [] = Unit {0}
SpellableTasks (t ∷ ts) = SpellableTask t × SpellableTasks ts

-- a timeout, if there is one, fits 64 bits
abbrev pub SpellableTimeout : Option ℕ → Type 0
SpellableTimeout None = Unit {0}
SpellableTimeout (Some n) = Fits 64 n

-- a script can say the plan: its times fit 64 bits, its tasks can be spelled, and their names are in order
pub record Spellable (p : Plan) : Type 0 where
  pub fits_cycle : Fits 64 p.cycle
  pub fits_start : Fits 64 p.start
  pub fits_timeout : SpellableTimeout p.timeout
  pub spells_tasks : SpellableTasks p.tasks
  pub names : NamesStand p.tasks

-- a plan that a script can say is read back from its spelling within the limits, with each task on the line that it has there
abbrev pub ReadBack : Plan → Type 0
ReadBack p = Spellable p → Within (spelled p) p → reading (spelled p) ≡ Ok (placed p)
