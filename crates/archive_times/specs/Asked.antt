-- What the lines of a file say of a time. Ours.
use Rattle.std.specs.Prelude.{◌≡◌, ℕ, ◌<◌, ◌≤◌, nat_le, max, if◌then◌else◌, List, [], ◌∷◌, ◌++◌, ⊤, Option, Some, None}
use Rattle.std.specs.Int.{abs_diff}
use Rattle.std.specs.List.{AllByRecursion}
use Rattle.archive_times.specs.declared.line.Join.{Join}
use Rattle.archive_times.specs.declared.line.Line.{Line}

-- ---- The place of a time, for lines of a file that begins here.

abbrev pub offset_of : Line → ℕ
offset_of line = line.offset

-- each line has a greater offset than the one before, and no earlier time
abbrev pub RiseAfter : Line → List Line → Type 0
RiseAfter last [] = ⊤
RiseAfter last (line ∷ lines) = (last.offset < line.offset) × (last.time ≤ line.time) × RiseAfter line lines

-- the same of lines of a file that begins here
abbrev pub RiseFrom : ℕ → List Line → Type 0
RiseFrom begin [] = ⊤
RiseFrom begin (line ∷ lines) = (begin ≤ line.offset) × RiseAfter line lines

-- the place of the last line whose time is at most this one, or where the file begins
abbrev pub offset_at : ℕ → List Line → ℕ → ℕ
offset_at begin [] time = begin
offset_at begin (line ∷ lines) time = if nat_le line.time time then offset_at line.offset lines time else begin

-- the place of the last of these lines
abbrev pub last_offset : ℕ → List Line → ℕ
last_offset begin [] = begin
last_offset begin (line ∷ lines) = last_offset line.offset lines

-- the place is that of the last of the lines that aren't later than the time
pub record IsPlaceAt (begin : ℕ) (lines : List Line) (time place : ℕ) : Type 0 where
  pub earlier : List Line
  pub later : List Line
  pub split : lines ≡ earlier ++ later
  pub are_earlier : AllByRecursion (λ line. line.time ≤ time) earlier
  pub are_later : AllByRecursion (λ line. time < line.time) later
  pub place_is : place ≡ last_offset begin earlier

-- the last line whose time is at most this one, or the one before them all
abbrev pub line_at : Option Line → List Line → ℕ → Option Line
line_at last [] time = last
line_at last (line ∷ lines) time = if nat_le line.time time then line_at (Some line) lines time else last

-- the place that a line speaks of, or where the file begins
abbrev pub place_of : ℕ → Option Line → ℕ
place_of begin None = begin
place_of begin (Some line) = line.offset

-- ---- What is written.

-- a line tells of more bytes than the one before
abbrev pub OffsetRises : Option Line → ℕ → Type 0
OffsetRises None offset = ⊤
OffsetRises (Some last) offset = last.offset < offset

-- a clock that goes back gives the last time again
abbrev pub time_after : Option Line → ℕ → ℕ
time_after None now = now
time_after (Some last) now = max last.time now

abbrev pub line_after : Option Line → ℕ → ℕ → Option Join → Line
line_after last offset now join = record { offset = offset; time = time_after last now; join = join }

-- the clock is a second or more from where it was when the last line was written, either way
abbrev pub IsDue : Option ℕ → ℕ → Type 0
IsDue None now = ⊤
IsDue (Some written) now = 1000 ≤ abs_diff written now

-- no line tells yet of the link that is open
abbrev pub IsUntold : Option Line → Option Join → Type 0
IsUntold last None = ⊥
IsUntold None (Some join) = ⊤
IsUntold (Some last) (Some join) = last.offset < join.begun
