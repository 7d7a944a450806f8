use Rattle.std.proofs.Common.{of_calls}
use Rattle.std.specs.Fn.{CalledAt}
use Rattle.std.proofs.lemmas.Fn.{filter_same}
use Rattle.reserved.proofs.Reserved.retain.Goals as goal

pub returns : goal.returns
returns g c = λ test same.
    filter_same (CalledAt g.F.Fn) test c.args.passes
    (λ x b f' k. (same x b (record { shown = k.shown; shows = k.shows; says = record { met = search of_calls } }), g.met.F.Fn.1.step_stays _ _ _ _ k.called))
    _ _ c.retain.ensures.filtered
