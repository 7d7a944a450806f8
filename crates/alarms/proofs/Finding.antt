-- What a search by serial says of the alarms that stand.
use Rattle.std.proofs.Common.{◌≡◌, ℕ, true, eqb, List, Some, None, Option, sym, ◌∙◌}
use Rattle.std.proofs.lemmas.Bool.{eq-eqb, eqb-true, both_ways}
use Rattle.keyed.proofs.Searches.{first_in, first_none}
use Rattle.alarms.specs.declared.Alarm.{Alarm}
use Rattle.alarms.specs.Order.{ordered}
use Rattle.alarms.specs.Model.{has_serial, found}
use Rattle.alarms.specs.Laws.{Finds}
use Rattle.alarms.proofs.Orders.{ordered_only}

pub finds_found : (next serial : ℕ) (xs : List Alarm) (r : Option Alarm) → ordered next xs ≡ true → r ≡ found serial xs → Finds serial xs r
finds_found next serial xs None o answer = λ a stands is. both_ways (eqb a.serial serial) (first_none (has_serial serial) xs (sym answer) a stands) (eq-eqb a.serial serial is)
finds_found next serial xs (Some a) o answer =
    let p = first_in (has_serial serial) xs a (sym answer) in
    let has = eqb-true a.serial serial p.1 in
    record { stands = p.0; has = has; only = λ b stands is. ordered_only next xs o a b p.0 stands (is ∙ sym has) }
