use Rattle.std.proofs.Common.{length, ap, ◌∙◌, arith}
use Rattle.lineage.specs.Family.{Family, family_of}
use Rattle.lineage.proofs.Newborn.{tidied_tells}
use Rattle.lineage.proofs.Lineage.bear.Goals as goal

pub add-serial-requires-clause-room : goal.add-serial-requires-clause-room
add-serial-requires-clause-room c =
    let many = ap (λ (f : Family). length f.nodes) c.tidy.ensures ∙ (tidied_tells c.args.parent (family_of c.args.self.now)).many in
    omega arith
