use Rattle.std.proofs.Common.{◌+◌, ◌∙◌, rules}
use Rattle.std.proofs.lemmas.Result.{err_from_is_err_and}
use Rattle.std.specs.Iterator.Adapters.{enumerate_count, enumerate_source}
use Rattle.lines.specs.Left.{bytes_left}
use Rattle.lines.specs.Lines.{text_of}
use Rattle.grammar.specs.Reading.{blank, draft_of}
use Rattle.script.specs.Drafts.{said_in}
use Rattle.script.proofs.Telling.{draft_of_more, draft_of_refused, draft_of_rest, draft_of_none, next_line, agrees_refused}
use Rattle.script.proofs.read.read_lines.Goals as goal

pub loop-i-preserved : goal.loop-i-preserved
loop-i-preserved c =
    let now = c.loop-i in
    let steps = c.in-Some.ensures.steps in
    let left = bytes_left (enumerate_source now.i-iterator) in
    let after = bytes_left (enumerate_source c.next.new.self) in
    record {
      turns = search rules;
      drafted =
          draft_of_more _ (enumerate_count now.i-iterator) c.in-Some.i (said_in now.draft) left now.invariant.drafted steps.1
          (said_in c.take_line.new.self) c.in-Ok.line.now after (enumerate_count c.next.new.self) (next_line left c.in-Some.line c.in-Ok.line after steps.0 c.in-Ok.is) steps.2 c.in_ok-take_line-in-Ok.ensures;
    }

pub returns-in_err-take_line-in-Ok : goal.returns-in_err-take_line-in-Ok
returns-in_err-take_line-in-Ok c =
    let now = c.loop-i in
    let steps = c.in-Some.ensures.steps in
    let left = bytes_left (enumerate_source now.i-iterator) in
    let after = bytes_left (enumerate_source c.next.new.self) in
    let whole = draft_of 1 blank (text_of c.args.bytes.now).lines (text_of c.args.bytes.now).rest in
    let p = err_from_is_err_and c.from_residual.result c.from_residual.ensures.1 in
    rw (p.1, p.2)
    (agrees_refused said_in _ (said_in c.take_line.new.self) _ whole c.in_err-take_line-in-Ok.ensures
    (λ f refused.
    draft_of_refused whole (enumerate_count now.i-iterator) c.in-Some.i (said_in now.draft) left now.invariant.drafted steps.1
    f c.in-Ok.line.now after (next_line left c.in-Some.line c.in-Ok.line after steps.0 c.in-Ok.is) refused))

pub returns-in-Err : goal.returns-in-Err
returns-in-Err c =
    let now = c.loop-i in
    let steps = c.in-Some.ensures.steps in
    let left = bytes_left (enumerate_source now.i-iterator) in
    let after = bytes_left (enumerate_source c.next.new.self) in
    rw (c.into.ensures, c.at.ensures)
    (draft_of_rest _ (enumerate_count now.i-iterator) c.in-Some.i (said_in now.draft) left now.invariant.drafted steps.1
    c.in-Some.line c.in-Err.field-0 after steps.0 c.in-Err.is)

pub returns : goal.returns
returns c =
    let now = c.loop-i in
    now.invariant.drafted ∙ draft_of_none (enumerate_count now.i-iterator + 1) (said_in now.draft) (bytes_left (enumerate_source now.i-iterator)) c.in-None.ensures.steps.0.0
