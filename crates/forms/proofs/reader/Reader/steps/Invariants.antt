use Rattle.std.proofs.Common.{◌≡◌, map, length, vec_items}
use Rattle.tokens.specs.Cursor.{ahead}
use Rattle.forms.specs.Forms.{acts_in, between}
use Rattle.forms.specs.Steps.{read_before}
use Rattle.forms.specs.Views.{act_of}
use Rattle.forms.proofs.reader.Reader.steps.Given as goal

abbrev pub invariant-loop-steps : goal.invariant-loop-steps
invariant-loop-steps l = acts_in between (ahead l.initial.self.tokens) ≡ read_before (map act_of (vec_items l.steps)) (ahead l.self.tokens)

abbrev pub decreases-loop-steps : goal.decreases-loop-steps
decreases-loop-steps l = length (ahead l.self.tokens)
