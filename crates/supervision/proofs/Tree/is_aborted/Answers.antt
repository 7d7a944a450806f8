use Rattle.std.proofs.Common.{rules}
use Rattle.supervision.specs.Calls.{view}
use Rattle.supervision.proofs.Whole.{whole_of}
use Rattle.supervision.proofs.Walking.{all_aborted}
use Rattle.supervision.proofs.Tree.is_aborted.Goals as goal

pub returns-clause-law : goal.returns-clause-law
returns-clause-law c = λ h. all_aborted c.args.context (view c.args.self.now) (whole_of c.args.self.now) (search rules)
