-- What a checksum in the making stands for.
use Rattle.std.specs.Prelude.{◌≡◌, ℕ, List}
use Rattle.crc32c.specs.Crc.{register_of}
use Rattle.crc32c.specs.declared.register.Crc32c.{Crc32c}

-- the checksum is where these bytes, fed from the beginning, bring it
abbrev pub Fed : Crc32c → List ℕ → Type 0
Fed crc bytes = crc.register ≡ register_of bytes
