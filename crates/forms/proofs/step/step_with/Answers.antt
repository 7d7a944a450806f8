use Rattle.std.proofs.Common.{rules, arith, codes}
use Rattle.std.proofs.lemmas.Grind.{common_steps}
use Rattle.std.proofs.lemmas.Slice.Eq.{text_from_reads}
use Rattle.forms.proofs.Keywords.{act_with_none}
use Rattle.forms.proofs.step.step_with.Goals as goal

pub returns-in_ok-number_in-in-sleep : goal.returns-in_ok-number_in-in-sleep
returns-in_ok-number_in-in-sleep c = rw (text_from_reads c.args.keyword.now (codes "sleep") (omega arith) (search rules)) (search rules)

pub returns-in_ok-name_in-in-spawn : goal.returns-in_ok-name_in-in-spawn
returns-in_ok-name_in-in-spawn c = rw (text_from_reads c.args.keyword.now (codes "spawn") (omega arith) (search rules)) (search rules)

pub returns-in_ok-name_in-in-wake : goal.returns-in_ok-name_in-in-wake
returns-in_ok-name_in-in-wake c = rw (text_from_reads c.args.keyword.now (codes "wake") (omega arith) (search rules)) (search rules)

pub returns-in_ok-name_in-in-abort : goal.returns-in_ok-name_in-in-abort
returns-in_ok-name_in-in-abort c = rw (text_from_reads c.args.keyword.now (codes "abort") (omega arith) (search rules)) (search rules)

pub returns-in_ok-number_in-in-stop : goal.returns-in_ok-number_in-in-stop
returns-in_ok-number_in-in-stop c = rw (text_from_reads c.args.keyword.now (codes "stop") (omega arith) (search rules)) (search rules)

pub returns-in_ok-number_in-in-done : goal.returns-in_ok-number_in-in-done
returns-in_ok-number_in-in-done c = rw (text_from_reads c.args.keyword.now (codes "done") (omega arith) (search rules)) (search rules)

pub returns-in_ok-number_in-in-fault : goal.returns-in_ok-number_in-in-fault
returns-in_ok-number_in-in-fault c = rw (text_from_reads c.args.keyword.now (codes "fault") (omega arith) (search rules)) (search rules)

pub returns-in_default : goal.returns-in_default
returns-in_default c =
    rw (act_with_none c.args.keyword.now _
    (λ e. grind (arith, common_steps)) (λ e. grind (arith, common_steps)) (λ e. grind (arith, common_steps)) (λ e. grind (arith, common_steps))
    (λ e. grind (arith, common_steps)) (λ e. grind (arith, common_steps)) (λ e. grind (arith, common_steps)))
