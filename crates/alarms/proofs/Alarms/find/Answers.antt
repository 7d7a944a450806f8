-- The library's search by a test gives the first alarm with the serial, which is the only one.
use Rattle.std.proofs.Common.{rules, tests, ◌∙◌}
use Rattle.std.proofs.lemmas.Iterator.{YieldsList-from_slice}
use Rattle.std.proofs.lemmas.Iterator.Search.{find_from_yields_List}
use Rattle.reserved.specs.Held.{held}
use Rattle.alarms.specs.Model.{has_serial}
use Rattle.alarms.proofs.Finding.{finds_found}
use Rattle.alarms.proofs.Alarms.find.Goals as goal

pub returns : goal.returns
returns c =
    let first = find_from_yields_List (has_serial c.args.serial) _ _ c.find.result c.find.ensures.ran (YieldsList-from_slice (held c.args.self.now.standing) cc) (λ x b q k. search (rules, tests)) in
    let here = c.copied.ensures ∙ first in
    record { answer = here; stands = finds_found _ _ _ _ c.args.self.now.order here }
