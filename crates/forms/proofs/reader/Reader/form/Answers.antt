use Rattle.std.proofs.Common.{subst, arith}
use Rattle.tokens.specs.Cursor.{ahead}
use Rattle.forms.specs.Views.{Means, says_of}
use Rattle.forms.proofs.Lines.{form_by_keyword}
use Rattle.forms.proofs.reader.Reader.form.Goals as goal

pub returns-clause-form : goal.returns-clause-form
returns-clause-form c =
    subst (λ said. Means says_of said c.keyed.result)
    (form_by_keyword c.in_ok-keyword.keyword.now c.opens.result (ahead c.args.self.now.tokens) _ _ c.if-not-opens.false c.opens.ensures.answer c.opens.ensures.state (grind arith) c.word.ensures.state)
    c.keyed.ensures.form
