-- How bytes fall into lines: LF ends a line.
use Rattle.std.specs.Prelude.{ℕ, cond, List, [], ◌∷◌, ◌++◌, ◌==◌}

-- the lines that LF ends, each without it, and the bytes after the last LF
pub record Text : Type 0 where
  pub lines : List (List ℕ)
  pub rest : List ℕ

-- a byte, other than LF, before a text whose lines and rest are given
abbrev pub led : ℕ → List (List ℕ) → List ℕ → Text
led b [] rest = record { lines = []; rest = b ∷ rest }
led b (l ∷ ls) rest = record { lines = (b ∷ l) ∷ ls; rest = rest }

-- a byte before a text: LF ends a line that is empty so far
abbrev pub begun_by : ℕ → Text → Text
begun_by b t = cond (b == 10) (record { lines = [] ∷ t.lines; rest = t.rest }) (led b t.lines t.rest)

-- the lines of some bytes
unfoldable pub text_of : List ℕ → Text
text_of [] = record { lines = []; rest = [] }
text_of (b ∷ bs) = begun_by b (text_of bs)

-- the bytes of lines, each ended by LF
unfoldable pub bytes_of : List (List ℕ) → List ℕ
bytes_of [] = []
bytes_of (l ∷ ls) = l ++ (10 ∷ bytes_of ls)

-- a line before a text
abbrev pub with_line : List ℕ → Text → Text
with_line l t = record { lines = l ∷ t.lines; rest = t.rest }

-- no line is ended
abbrev pub unended : List ℕ → Text
unended bs = record { lines = []; rest = bs }
