-- What `verify` decides of a file. Ours.
use Rattle.std.specs.Prelude.{◌≡◌, ◌≢◌, ◌⊎◌, ℕ, ◌+◌, ◌-◌, ◌*◌, ◌/◌, ◌^◌, ◌<◌, max, min, nat_lt, Bool, true, false, ◌&&◌, if◌then◌else◌, List, [], ◌∷◌, Option, Some, None}
use Rattle.archive_names.specs.declared.name.Name.{Name}
use Rattle.archive_reading.specs.declared.listed.Listed.{Listed}
use Rattle.archive_times.specs.Times.{has_no_line_feed}
use Rattle.archive_times.specs.declared.line.Line.{Line}
use Rattle.fault_lines.specs.declared.fault.Fault.{Fault}
use Rattle.fault_lines.specs.declared.fault.Fault.TheVariants.{Index, Memory, Open}
use Rattle.gate_file.specs.declared.fault.OpenFault.TheVariants.{Memory as OpenMemory}
use Rattle.link_index.specs.declared.fault.IndexFault.TheVariants.{Memory as IndexMemory}
use Rattle.file_actions.specs.declared.checks.TimesFault.{TimesFault}
use Rattle.file_actions.specs.declared.checks.TimesFault.TheVariants.{Line as LineFault, Page}

-- what a stop may leave after the last page of the file that is written: one byte, or what begins with a byte 00
abbrev pub IsLeftByStop : ℕ → ℕ → Type 0
IsLeftByStop tail first = (tail < 2) ⊎ (first ≡ 0)

-- what may follow the last page: of a file that has ended, nothing
abbrev pub IsSoundTail : Bool → ℕ → ℕ → Type 0
IsSoundTail false tail first = tail ≡ 0
IsSoundTail true tail first = IsLeftByStop tail first

-- the number of the file with which this one goes on, if it has one
abbrev pub IsBefore : Listed → Name → Type 0
IsBefore before name = before.name.number + 1 ≡ name.number

-- A file goes on with one that isn't there. The file before it in the folder shows that, unless it is kept: then what
-- followed it may have been thrown away. Of the oldest file nothing is known.
abbrev pub LacksBefore : Option Listed → Name → Type 0
LacksBefore None name = ⊥
LacksBefore (Some before) name = (name.goes_on ≡ true) × (before.is_kept ≡ false) × (before.name.number + 1 ≢ name.number)

-- the seconds that are left, if what is done took this many milliseconds, as far as a product has room
abbrev pub seconds_left : ℕ → ℕ → ℕ → ℕ
seconds_left passed done total = min (passed * (total - done)) (2 ^ 64 - 1) / max done 1 / 1000

-- want of memory is no damage
abbrev pub is_memory : Fault → Bool
is_memory Memory = true
is_memory (Open OpenMemory) = true
is_memory (Index IndexMemory) = true
is_memory _ = false

-- ---- Lines of times, compared with the places between pages as these pass in turn.

-- The first fault so far: a place passes before which the next line speaks of an offset, at which none has passed. The
-- line stands at this byte of the text.
abbrev pub fault_after : Option TimesFault → Option Line → ℕ → ℕ → Option TimesFault
fault_after (Some fault) next at place = Some fault
fault_after None None at place = None
fault_after None (Some line) at place = if nat_lt line.offset place then Some (Page at) else None

-- the next line speaks of this place, so it is done
abbrev pub IsReached : Option Line → ℕ → Type 0
IsReached None place = ⊥
IsReached (Some line) place = line.offset ≡ place

-- what follows the lines is none: it is nothing, or the last line of a file that is written now, which may be torn
abbrev pub is_excused : Bool → List ℕ → Bool
is_excused is_written [] = true
is_excused is_written (byte ∷ rest) = is_written && has_no_line_feed (byte ∷ rest)

-- the first fault after all places: a line that waits speaks of none of them
abbrev pub last_fault : Bool → Option TimesFault → Option Line → ℕ → List ℕ → Option TimesFault
last_fault is_written (Some fault) next at rest = Some fault
last_fault is_written None (Some line) at rest = Some (Page at)
last_fault is_written None None at rest = if is_excused is_written rest then None else Some (LineFault at)
