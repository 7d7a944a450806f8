use Rattle.std.proofs.Common.{rules, tests}
use Rattle.std.proofs.lemmas.Iterator.{YieldsList-from_slice}
use Rattle.std.proofs.lemmas.Iterator.Search.{all_from_yields_List}
use Rattle.forms.specs.Views.{act_of}
use Rattle.grammar.specs.Reading.{is_known}
use Rattle.names.specs.Names.{names_in}
use Rattle.names.proofs.Naming.{all_known_all}
use Rattle.names.proofs.all_known.Goals as goal

pub returns : goal.returns
returns c =
    let names = names_in c.args.tasks.now in
    rw all_known_all
    (all_from_yields_List (λ s. is_known names (act_of s)) _ _ _ c.all.ensures.ran (YieldsList-from_slice c.args.steps.now cc) (λ x b q k. search (rules, tests)))
