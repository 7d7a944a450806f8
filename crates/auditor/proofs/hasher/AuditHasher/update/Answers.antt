use Rattle.std.proofs.Common.{ℕ, List, ◌++◌, ap, ◌∙◌}
use Rattle.crc32c.specs.Crc.{register_of}
use Rattle.auditor.specs.Bytes.{framed}
use Rattle.auditor.proofs.Framing.{framed_push}
use Rattle.auditor.proofs.hasher.AuditHasher.update.Goals as goal

pub returns : goal.returns
returns c =
    let part = c.args.part.now in
    let prefix = c.length_prefix-prefix.result in
    record {
      taken = λ parts is.
          c.update-2.ensures.fed (framed parts ++ prefix) (c.update.ensures.fed (framed parts) is)
          ∙ ap register_of (ap (λ (bytes : List ℕ). (framed parts ++ bytes) ++ part) c.length_prefix-prefix.ensures ∙ framed_push parts part);
    }
