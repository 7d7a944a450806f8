use Rattle.std.proofs.Common.{true, false, map, take, sym, ◌∙◌}
use Rattle.std.proofs.lemmas.List.{at_drop_all}
use Rattle.forms.specs.Views.{task_of}
use Rattle.grammar.specs.Reading.{misnamed}
use Rattle.names.specs.Names.{names_in}
use Rattle.names.proofs.Naming.{misnamed_start, misnamed_turn, misnamed_none}
use Rattle.names.proofs.misnamed_line.Goals as goal

pub loop-i-init : goal.loop-i-init
loop-i-init c = misnamed_start (names_in c.args.tasks.now) (map task_of c.args.tasks.now)

pub returns-then-not-is_named : goal.returns-then-not-is_named
returns-then-not-is_named c =
    let tasks = c.args.tasks.now in
    sym (c.loop-i.invariant ∙ misnamed_turn (names_in tasks) tasks c.loop-i.i c.index-tasks-i.result false c.loop-i-test.true c.index-tasks-i.is c.if-not-is_named.ensures)

pub loop-i-preserved : goal.loop-i-preserved
loop-i-preserved c =
    let tasks = c.args.tasks.now in
    c.loop-i.invariant ∙ misnamed_turn (names_in tasks) tasks c.loop-i.i c.index-tasks-i.result true c.loop-i-test.true c.index-tasks-i.is c.if-not-is_named.ensures

pub returns : goal.returns
returns c =
    let tasks = c.args.tasks.now in
    let earlier = names_in (take c.loop-i.i tasks) in
    sym (c.loop-i.invariant ∙ at_drop_all (λ us. misnamed (names_in tasks) earlier (map task_of us)) tasks c.loop-i.i c.loop-i-test.false ∙ misnamed_none (names_in tasks) earlier)
