use Rattle.std.proofs.Common.{rules, arith, codes}
use Rattle.std.proofs.lemmas.Slice.Eq.{text_from_reads}
use Rattle.forms.proofs.step.bare_step.Goals as goal

pub returns-in-await : goal.returns-in-await
returns-in-await c = rw (text_from_reads c.args.keyword.now (codes "await") (omega arith) (search rules)) (search rules)
