-- The lines of an input. Ours.
use Rattle.std.specs.Prelude.{◌≡◌, ℕ, ◌+◌, ◌<◌, take, drop, nat_le, if◌then◌else◌, ◌==◌, Option, Some, None, List, [], ◌∷◌, ◌++◌, length}

-- the lines that end in these bytes, without their line feeds; of the first of them this had come before
abbrev pub lines_from : List ℕ → List ℕ → List (List ℕ)
lines_from line [] = []
lines_from line (byte ∷ bytes) = if byte == 10 then line ∷ lines_from [] bytes else lines_from (line ++ byte ∷ []) bytes

-- what has come of the line after them
abbrev pub rest_from : List ℕ → List ℕ → List ℕ
rest_from line [] = line
rest_from line (byte ∷ bytes) = if byte == 10 then rest_from [] bytes else rest_from (line ++ byte ∷ []) bytes

-- a line is recorded if it has at most so many bytes
abbrev pub longest : ℕ
longest = 8388608

-- the line, unless it is too long
abbrev pub short : List ℕ → Option (List ℕ)
short line = if nat_le (length line) longest then Some line else None

-- more has come of a line
abbrev pub joined : Option (List ℕ) → List ℕ → Option (List ℕ)
joined None piece = None
joined (Some line) piece = short (line ++ piece)

-- The first line feed of the bytes: of any line that they go on with this is the end.
pub record IsFirstFeed (bytes : List ℕ) (at : ℕ) : Type 0 where
  pub inside : at < length bytes
  pub lines : (line : List ℕ) → lines_from line bytes ≡ (line ++ take at bytes) ∷ lines_from [] (drop (at + 1) bytes)
  pub rest : (line : List ℕ) → rest_from line bytes ≡ rest_from [] (drop (at + 1) bytes)

-- no line ends in the bytes
pub record HasNoFeed (bytes : List ℕ) : Type 0 where
  pub lines : (line : List ℕ) → lines_from line bytes ≡ []
  pub rest : (line : List ℕ) → rest_from line bytes ≡ line ++ bytes

-- the first line feed of the bytes stands between these: any line that they go on with ends with the first of them
pub record SplitsLine (bytes line rest : List ℕ) : Type 0 where
  pub lines : (begun : List ℕ) → lines_from begun bytes ≡ (begun ++ line) ∷ lines_from [] rest
  pub rest_is : (begun : List ℕ) → rest_from begun bytes ≡ rest_from [] rest
  pub shorter : length line + length rest < length bytes
