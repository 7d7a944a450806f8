use Rattle.std.proofs.Common.{rules, tests}
use Rattle.std.specs.Str.{bytes_eq}
use Rattle.std.proofs.lemmas.Iterator.{YieldsList-from_slice}
use Rattle.std.proofs.lemmas.Iterator.Search.{any_from_yields_List}
use Rattle.names.proofs.Naming.{is_among_any}
use Rattle.names.proofs.is_among.Goals as goal

pub returns : goal.returns
returns c =
    let name = c.args.name.now in
    rw is_among_any
    (any_from_yields_List (λ t. bytes_eq name t.name.now) _ _ _ c.any.ensures.ran (YieldsList-from_slice c.args.tasks.now cc) (λ x b q k. search (rules, tests)))
