use Rattle.grammar.proofs.Placing.{spelled_placed}
use Rattle.grammar.proofs.RoundTrip.{read_back}
use Rattle.script.specs.Views.{script_of}
use Rattle.script_print.proofs.print.print.Goals as goal

pub returns-clause-readable : goal.returns-clause-readable
returns-clause-readable c = read_back (script_of c.args.script.now)

pub returns-clause-settled : goal.returns-clause-settled
returns-clause-settled c = spelled_placed (script_of c.args.script.now)
