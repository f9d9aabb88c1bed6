-- When a file was recorded, in milliseconds since 1970. Ours.
use Rattle.std.specs.Prelude.{◌≡◌, ℕ, ◌+◌, ◌*◌, ◌<◌, ◌≤◌, nat_lt, max, min, true, if◌then◌else◌, Option, Some, None, ⊤}
use Rattle.archive_names.specs.declared.name.Name.{Name}
use Rattle.archive_times.specs.declared.line.Line.{Line}
use Rattle.archive_reading.specs.declared.span.Span.{Span}

-- the second that its name tells
abbrev pub begin_of : Name → ℕ
begin_of name = min name.begin 253402300799 * 1000

-- the last time that a line tells, which isn't before the beginning
abbrev pub told_end : ℕ → Option Line → ℕ
told_end begin None = begin
told_end begin (Some line) = max begin line.time

-- up to which offset lines tell of the file
abbrev pub told_bytes : Option Line → ℕ
told_bytes None = 0
told_bytes (Some line) = line.offset

-- what follows the last line has the time of the next file's beginning, or now
abbrev pub end_of : ℕ → Option Line → ℕ → ℕ → ℕ
end_of begin last bytes later = if nat_lt (told_bytes last) bytes then max (told_end begin last) later else told_end begin last

abbrev pub span_of : Name → Option Line → ℕ → ℕ → Span
span_of name last bytes later = record { begin = begin_of name; end = end_of (begin_of name) last bytes later }

abbrev pub IsAfter : Option ℕ → ℕ → Type 0
IsAfter None time = ⊤
IsAfter (Some since) time = since < time

abbrev pub IsUntil : Option ℕ → ℕ → Type 0
IsUntil None time = ⊤
IsUntil (Some until) time = time ≤ until

-- something of it may lie after the one moment and not after the other
abbrev pub Overlaps : Option ℕ → Option ℕ → Span → Type 0
Overlaps since until span = IsAfter since span.end × IsUntil until span.begin

-- the next file's first link goes on with the last one of this file
abbrev pub GoesOnWith : Name → Name → Type 0
GoesOnWith before next = (next.goes_on ≡ true) × (next.number ≡ before.number + 1)

-- ten seconds
abbrev pub gap : ℕ
gap = 10000

-- for ten seconds or more there is nothing
abbrev pub IsGap : Span → Span → Type 0
IsGap before next = before.end + gap ≤ next.begin
