use Rattle.std.proofs.Common.{◌≡◌, vec_items, sym, ◌∙◌, rules}
use Rattle.std.specs.Iterator.Adapters.{enumerate_count, enumerate_source}
use Rattle.lines.specs.Left.{bytes_left}
use Rattle.event_lines.specs.Told.{audited, lines_of}
use Rattle.event_lines.proofs.Telling.{bytes_in, line_next, line_none, told_all, told_more, told_stop}
use Rattle.event_lines.proofs.audit.audit_input.Goals as goal

pub returns-in-Some-2 : goal.returns-in-Some-2
returns-in-Some-2 c =
    let now = c.loop-i in
    let steps = c.in-Some.ensures.steps in
    let bytes = bytes_left (enumerate_source now.i-iterator) in
    let after = bytes_left (enumerate_source c.next.new.self) in
    let line = c.unwrap_or_else-line.result.now in
    let same : line ≡ bytes_in c.in-Some.line = search rules in
    let audit = c.in_ok-trouble.ensures in
    told_stop (audited c.args.input.now) (vec_items now.text) now.auditor.digest (enumerate_count now.i-iterator) c.in-Some.i (lines_of bytes) (lines_of after) line (vec_items c.audit_line.new.text) c.in-Some-2.trouble
    now.invariant.told (line_next bytes after line c.in-Some.line steps.0 same) (sym c.in-Some-2.is ∙ audit.answer) steps.1 audit.text

pub loop-i-preserved : goal.loop-i-preserved
loop-i-preserved c =
    let now = c.loop-i in
    let steps = c.in-Some.ensures.steps in
    let bytes = bytes_left (enumerate_source now.i-iterator) in
    let after = bytes_left (enumerate_source c.next.new.self) in
    let line = c.unwrap_or_else-line.result.now in
    let same : line ≡ bytes_in c.in-Some.line = search rules in
    let audit = c.in_ok-trouble.ensures in
    record {
      turns = search rules;
      told =
          told_more (audited c.args.input.now) (vec_items now.text) now.auditor.digest (enumerate_count now.i-iterator) (enumerate_count c.next.new.self) (lines_of bytes) (lines_of after) line (vec_items c.audit_line.new.text) c.audit_line.new.auditor.digest
          now.invariant.told (line_next bytes after line c.in-Some.line steps.0 same) (sym c.in_default.is ∙ audit.answer) steps.2 audit.text audit.digest;
    }

pub returns : goal.returns
returns c =
    let now = c.loop-i in
    let bytes = bytes_left (enumerate_source now.i-iterator) in
    told_all (audited c.args.input.now) (vec_items now.text) now.auditor.digest (enumerate_count now.i-iterator) (lines_of bytes) now.invariant.told
    (line_none bytes (bytes_left (enumerate_source c.next.new.self)) c.in-None.ensures.steps.0)
