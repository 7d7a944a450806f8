-- How numbers and parts become bytes.
--
-- big_endian   a number in a fixed count of bytes, the highest first
-- framed       parts one after the other, each preceded by its length in 8 bytes
use Rattle.std.specs.Prelude.{◌≡◌, ℕ, zero, suc, ◌/◌, ◌%◌, ◌^◌, ◌<◌, List, [], ◌∷◌, ◌++◌, length}

-- the lowest k bytes of n, the highest of them first
abbrev pub big_endian : ℕ → ℕ → List ℕ
big_endian zero n = []
big_endian (suc k) n = (n / 256 ^ k % 256) ∷ big_endian k n

-- the parts as they are hashed
abbrev pub framed : List (List ℕ) → List ℕ
framed [] = []
framed (part ∷ parts) = big_endian 8 (length part) ++ (part ++ framed parts)

-- each part is shorter than its prefix can tell
abbrev pub Short : List (List ℕ) → Type 0
Short [] = Unit {0}
Short (part ∷ parts) = (length part < 2 ^ 64) × Short parts

-- no two lists of parts are hashed as the same bytes
abbrev pub Unambiguous : Type 0
Unambiguous = (parts others : List (List ℕ)) → Short parts → Short others → framed parts ≡ framed others → parts ≡ others
