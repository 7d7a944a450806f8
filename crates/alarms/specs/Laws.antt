-- What the calls on alarms keep, in the words of alarms and times.
use Rattle.std.specs.Prelude.{◌≡◌, ℕ, ◌<◌, ◌≤◌, not, ◌⊎◌, List, [], ◌∷◌, ◌++◌, length, Some, None, Ok, Err, filter, Option, Result, ◌≢◌, nat_le}
use Rattle.std.specs.List.{AllByRecursion}
use Rattle.keyed.specs.Members.{In}
use Rattle.alarms.specs.declared.Alarm.{Alarm}
use Rattle.alarms.specs.declared.Full.{Full}
use Rattle.alarms.specs.Order.{most_alarms}
use Rattle.alarms.specs.Model.{Bells, first_due, without_first_due}

-- the first rings before the second: it is earlier, or as early and armed first
abbrev pub Before : Alarm → Alarm → Type 0
Before a b = (a.time < b.time) ⊎ ((a.time ≡ b.time) × (a.serial < b.serial))

-- the alarms at or before a time
abbrev pub due : ℕ → List Alarm → List Alarm
due now = filter (λ a. nat_le a.time now)

-- the alarms after a time
abbrev pub later : ℕ → List Alarm → List Alarm
later now = filter (λ a. not (nat_le a.time now))

-- what a ring takes: it is due, it is the first of all that are due, and it rings before each that stays
pub record RingsFirst (now : ℕ) (standing rest : List Alarm) (a : Alarm) : Type 0 where
  pub reached : a.time ≤ now
  pub stood : standing ≡ a ∷ rest
  pub due_rest : due now standing ≡ a ∷ due now rest
  pub later_rest : later now standing ≡ later now rest
  pub first : AllByRecursion (Before a) rest

-- no ring: every alarm that stands is later, and all stay
pub record RingsNone (now : ℕ) (standing rest : List Alarm) : Type 0 where
  pub none_due : due now standing ≡ []
  pub all_later : later now standing ≡ standing
  pub stays : rest ≡ standing

-- a ring takes the first alarm that is due, once, and leaves the others; it takes none only if none is due
abbrev pub Rings : ℕ → List Alarm → List Alarm → Option Alarm → Type 0
Rings now standing rest None = RingsNone now standing rest
Rings now standing rest (Some a) = RingsFirst now standing rest a

-- rings at one time, one after another until none is due, take the alarms of the first list in its order and leave the last list
abbrev pub RungOut : ℕ → List Alarm → List Alarm → List Alarm → Type 0
RungOut now [] standing rest = (first_due now standing ≡ None) × (rest ≡ standing)
RungOut now (a ∷ rang) standing rest = (first_due now standing ≡ Some a) × RungOut now rang (without_first_due now standing) rest

-- a whole ringing at a time rings exactly the alarms that are due, in the order in which they stand, and leaves exactly the later ones, which stand behind those
pub record WholeRinging (now : ℕ) (standing : List Alarm) : Type 0 where
  pub ends : RungOut now (due now standing) standing (later now standing)
  pub only : (rang rest : List Alarm) → RungOut now rang standing rest → (rang ≡ due now standing) × (rest ≡ later now standing)
  pub in_front : due now standing ++ later now standing ≡ standing

-- a time is the least: an alarm stands for it, and none stands for an earlier one
pub record Least (standing : List Alarm) (t : ℕ) : Type 0 where
  pub alarm : Alarm
  pub stands : In alarm standing
  pub at : alarm.time ≡ t
  pub least : AllByRecursion (λ a. t ≤ a.time) standing

-- the earliest time is the least, and there is none only if no alarm stands
abbrev pub Earliest : List Alarm → Option ℕ → Type 0
Earliest standing None = standing ≡ []
Earliest standing (Some t) = Least standing t

-- the serial of an arming is new: it is the next serial, every alarm that stands has a lower one, and the next serial is then above it, so that none is given twice
pub record Rises (was is : Bells) (serial : ℕ) : Type 0 where
  pub counted : serial ≡ was.next
  pub new : AllByRecursion (λ a. a.serial < serial) was.alarms
  pub above : serial < is.next

-- an arming gets a new serial, or as many alarms stand as may and nothing changes
abbrev pub Arms : Bells → Bells → Result ℕ Full → Type 0
Arms was is (Ok serial) = Rises was is serial
Arms was is (Err full) = (most_alarms ≤ length was.alarms) × (is ≡ was)

-- an alarm stands, has the serial, and is the only one that has it
pub record OnlyWith (serial : ℕ) (standing : List Alarm) (a : Alarm) : Type 0 where
  pub stands : In a standing
  pub has : a.serial ≡ serial
  pub only : (b : Alarm) → In b standing → b.serial ≡ serial → b ≡ a

-- a search by serial finds the only alarm that stands and has it, and none only if no alarm that stands has it
abbrev pub Finds : ℕ → List Alarm → Option Alarm → Type 0
Finds serial standing None = (a : Alarm) → In a standing → a.serial ≢ serial
Finds serial standing (Some a) = OnlyWith serial standing a
