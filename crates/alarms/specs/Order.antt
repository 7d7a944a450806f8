-- The order in which alarms ring.
--
-- most_alarms   the bound on how many stand
-- before        one alarm rings before another
-- leads         an alarm rings before each of a list
-- unused        no alarm of a list has a serial
-- ordered       a list stands in ringing order, its serials distinct and below a bound
use Rattle.std.specs.Prelude.{ℕ, Bool, true, not, ◌&&◌, ◌||◌, List, [], ◌∷◌, ◌==◌, nat_lt}
use Rattle.alarms.specs.declared.Alarm.{Alarm}

-- as many alarms may stand
abbrev pub most_alarms : ℕ
most_alarms = 128

-- the first is earlier, or as early and armed first
abbrev pub before : Alarm → Alarm → Bool
before a b = nat_lt a.time b.time || (a.time == b.time && nat_lt a.serial b.serial)

-- the alarm rings before each of the list
abbrev pub leads : Alarm → List Alarm → Bool
leads a [] = true
leads a (b ∷ bs) = before a b && leads a bs

-- no alarm of the list has the serial
abbrev pub unused : ℕ → List Alarm → Bool
unused serial [] = true
unused serial (b ∷ bs) = not (b.serial == serial) && unused serial bs

-- each alarm rings before those behind it, none of which has its serial, and every serial is below next
abbrev pub ordered : ℕ → List Alarm → Bool
ordered next [] = true
ordered next (a ∷ more) = nat_lt a.serial next && (leads a more && (unused a.serial more && ordered next more))
