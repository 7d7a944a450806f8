use Rattle.std.proofs.Common.{[], ◌∷◌}
use Rattle.auditor.proofs.auditor.Auditor.begin.Goals as goal

pub returns : goal.returns
returns c =
    record {
      taken = c.update-2.ensures.taken (c.args.self.now.digest ∷ []) (c.update.ensures.taken [] c.new-hasher.ensures.taken);
    }
