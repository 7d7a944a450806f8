use Rattle.std.proofs.Common.{◌≡◌, [], ◌∷◌, length, codes, rules}
use Rattle.auditor.specs.Events.{stopped, digest_after}
use Rattle.auditor.proofs.Apart.{hashed_apart}
use Rattle.auditor.proofs.Telling.{told_more}
use Rattle.auditor.proofs.auditor.Auditor.stopped.Goals as goal

pub returns : goal.returns
unfolding digest_after
returns c =
    let digest = c.args.self.now.digest in
    let after = c.finalize-self.ensures.value (digest ∷ codes "stopped" ∷ []) c.begin-hasher.ensures.taken in
    let four : length digest ≡ 4 = search rules in
    record {
      after = after;
      told = told_more digest _ stopped after;
      unmistakable = hashed_apart digest stopped four tt;
    }
