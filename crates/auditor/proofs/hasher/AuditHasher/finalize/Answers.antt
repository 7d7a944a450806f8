use Rattle.std.proofs.Common.{ℕ, ap, ◌∙◌}
use Rattle.auditor.specs.Bytes.{big_endian, framed}
use Rattle.auditor.proofs.Apart.{framed_apart}
use Rattle.auditor.proofs.hasher.AuditHasher.finalize.Goals as goal

pub returns : goal.returns
returns c =
    record {
      unambiguous = framed_apart;
      value = λ parts is. c.digest_bytes.ensures ∙ ap (λ (checksum : ℕ). big_endian 4 checksum) (c.finalize.ensures.value (framed parts) is);
    }
