use Rattle.std.proofs.Common.{◌≡◌, ◌+◌, vec_items}
use Rattle.std.specs.Iterator.Adapters.{enumerate_count, enumerate_source}
use Rattle.lines.specs.Left.{bytes_left}
use Rattle.event_lines.specs.Told.{audited, lines_of, outcome, prefixed}
use Rattle.event_lines.proofs.audit.audit_input.Given as goal

abbrev pub invariant-loop-i : goal.invariant-loop-i
invariant-loop-i l =
    record {
      turns : (goal.iterator-loop-i).can_next l.i-iterator × (goal.iterator-loop-i).is_finite l.i-iterator;
      told : audited l.input ≡ prefixed (vec_items l.text) (outcome l.auditor.digest (enumerate_count l.i-iterator + 1) (lines_of (bytes_left (enumerate_source l.i-iterator))));
    }
