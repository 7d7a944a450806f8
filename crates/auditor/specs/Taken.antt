-- What a hasher and an auditor stand for.
use Rattle.std.specs.Prelude.{◌≡◌, ℕ, List}
use Rattle.crc32c.specs.Fed.{Fed}
use Rattle.auditor.specs.Bytes.{framed}
use Rattle.auditor.specs.Events.{Event, digest_of}
use Rattle.auditor.specs.declared.hasher.AuditHasher.{AuditHasher}
use Rattle.auditor.specs.declared.auditor.Auditor.{Auditor}

-- the hasher is where these parts, taken in this order from the beginning, bring it
abbrev pub Taken : AuditHasher → List (List ℕ) → Type 0
Taken hasher parts = Fed hasher.crc (framed parts)

-- the auditor is where these events, told in this order from the beginning, bring it
abbrev pub Told : Auditor → List Event → Type 0
Told auditor events = auditor.digest ≡ digest_of events
