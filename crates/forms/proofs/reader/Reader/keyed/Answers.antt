use Rattle.std.proofs.Common.{rules, arith, codes}
use Rattle.std.proofs.lemmas.Grind.{common_steps}
use Rattle.std.proofs.lemmas.Slice.Eq.{text_from_reads}
use Rattle.forms.proofs.Keywords.{form_by_none}
use Rattle.forms.proofs.reader.Reader.keyed.Goals as goal

pub returns-in_ok-time-in-cycle-clause-form : goal.returns-in_ok-time-in-cycle-clause-form
returns-in_ok-time-in-cycle-clause-form c = rw (text_from_reads c.args.keyword.now (codes "cycle") (omega arith) (search rules)) (search rules)

pub returns-in_ok-time-in-start-clause-form : goal.returns-in_ok-time-in-start-clause-form
returns-in_ok-time-in-start-clause-form c = rw (text_from_reads c.args.keyword.now (codes "start") (omega arith) (search rules)) (search rules)

pub returns-in_ok-time-in-timeout-clause-form : goal.returns-in_ok-time-in-timeout-clause-form
returns-in_ok-time-in-timeout-clause-form c = rw (text_from_reads c.args.keyword.now (codes "timeout") (omega arith) (search rules)) (search rules)

pub returns-in_ok-end-in-catch-clause-form : goal.returns-in_ok-end-in-catch-clause-form
returns-in_ok-end-in-catch-clause-form c = rw (text_from_reads c.args.keyword.now (codes "catch") (omega arith) (search rules)) (search rules)

pub returns-in_ok-task-in-task-clause-form : goal.returns-in_ok-task-in-task-clause-form
returns-in_ok-task-in-task-clause-form c = rw (text_from_reads c.args.keyword.now (codes "task") (omega arith) (search rules)) (search rules)

pub returns-in_default-clause-form : goal.returns-in_default-clause-form
returns-in_default-clause-form c =
    rw (form_by_none c.args.keyword.now _
    (λ e. grind (arith, common_steps)) (λ e. grind (arith, common_steps)) (λ e. grind (arith, common_steps)) (λ e. grind (arith, common_steps)) (λ e. grind (arith, common_steps)))
