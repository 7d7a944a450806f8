use Rattle.std.proofs.Common.{◌≡◌, ◌+◌}
use Rattle.std.specs.Iterator.Adapters.{enumerate_count, enumerate_source}
use Rattle.lines.specs.Left.{bytes_left}
use Rattle.lines.specs.Lines.{text_of}
use Rattle.grammar.specs.Reading.{blank, draft_of}
use Rattle.script.specs.Drafts.{said_in}
use Rattle.script.proofs.read.read_lines.Given as goal

abbrev pub invariant-loop-i : goal.invariant-loop-i
invariant-loop-i l =
    let left = text_of (bytes_left (enumerate_source l.i-iterator)) in
    record {
      turns : (goal.iterator-loop-i).can_next l.i-iterator × (goal.iterator-loop-i).is_finite l.i-iterator;
      drafted : draft_of 1 blank (text_of l.bytes).lines (text_of l.bytes).rest ≡ draft_of (enumerate_count l.i-iterator + 1) (said_in l.draft) left.lines left.rest;
    }
