-- The events of a rehearsal, and the digest by which two rehearsals are compared.
--
-- event     what the audit is told: a task is polled, a stop is asked for, a stop signal is taken
-- hashed    the bytes of one event: the digest before it, the event's name, then its parts, framed
-- digest    four bytes; zeros before any event, then the checksum of what the latest event hashed
use Rattle.std.specs.Prelude.{◌≡◌, ℕ, suc, ◌-◌, ◌^◌, ◌<◌, List, [], ◌∷◌, length, ℤ, pos, negsuc, codes, fold}
use Rattle.crc32c.specs.Crc.{checksum_of}
use Rattle.auditor.specs.Bytes.{big_endian, framed}

pub data Event : Type 0 where
  -- the task of this id and label is polled
  process_task : (id : ℕ) (label : List ℕ) → Event
  -- a stop with this value
  stop : (value : ℤ) → Event
  -- a stop signal is taken
  stopped : Event

-- the name under which an event is hashed
abbrev pub name_of : Event → List ℕ
name_of (process_task id label) = codes "process_task"
name_of (stop value) = codes "stop"
name_of stopped = codes "stopped"

-- a signed 32-bit number in two's complement
abbrev pub two's_complement : ℤ → ℕ
two's_complement (pos n) = n
two's_complement (negsuc n) = 2 ^ 32 - suc n

-- what an event adds to its name
abbrev pub parts_of : Event → List (List ℕ)
parts_of (process_task id label) = big_endian 16 id ∷ label ∷ []
parts_of (stop value) = big_endian 4 (two's_complement value) ∷ []
parts_of stopped = []

-- the bytes that an event hashes after this digest
abbrev pub hashed : List ℕ → Event → List ℕ
hashed digest event = framed (digest ∷ name_of event ∷ parts_of event)

-- the digest of these parts
abbrev pub digest_of_parts : List (List ℕ) → List ℕ
digest_of_parts parts = big_endian 4 (checksum_of (framed parts))

-- the digest after one event more
unfoldable pub digest_after : List ℕ → Event → List ℕ
digest_after digest event = big_endian 4 (checksum_of (hashed digest event))

-- the digest before any event
abbrev pub no_digest : List ℕ
no_digest = 0 ∷ 0 ∷ 0 ∷ 0 ∷ []

-- the digest after these events, and nothing else
abbrev pub digest_of : List Event → List ℕ
digest_of events = fold digest_after no_digest events

-- a signed 32-bit number
abbrev pub Signed32 : ℤ → Type 0
Signed32 (pos n) = n < 2 ^ 31
Signed32 (negsuc n) = n < 2 ^ 31

-- the event can happen: its number fits what it fills
abbrev pub Possible : Event → Type 0
Possible (process_task id label) = id < 2 ^ 64
Possible (stop value) = Signed32 value
Possible stopped = Unit {0}

-- no other event that can happen, after whatever digest of four bytes, hashes the same bytes
unfoldable pub Unmistakable : List ℕ → Event → Type 0
Unmistakable digest event =
    (before : List ℕ) (other : Event) → length before ≡ 4 → Possible other → hashed before other ≡ hashed digest event → (before ≡ digest) × (other ≡ event)
