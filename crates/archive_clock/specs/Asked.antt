-- A time that a person asks for: RFC 3339, the same without an offset, or counted back from now. What the text of a
-- date and time is, the grammar of jiff says, which takes in that of RFC 3339.
use Rattle.std.specs.Prelude.{◌≡◌, ℕ, ◌/◌, ◌⊎◌, ◌==◌, true, List, ℤ, pos, negsuc, Option, Some, None, Ok, Err}
use Rattle.std.specs.List.{list_any}
use Rattle.jiff.specs.Words.{IsTimestampNanos, ambiguous_at, compatible_offset, date_parts, instant_of, parse_datetime, time_parts}
use Rattle.jiff_core.specs.declared.civil.datetime.DateTime.{DateTime}
use Rattle.jiff_core.specs.declared.error.Error.{Error}
use Rattle.jiff_core.specs.declared.error.Error.TheVariants.{Missing}
use Rattle.jiff_core.specs.declared.error.Part.TheVariants as Part
use Rattle.jiff_tz.specs.declared.timezone.TimeZone.{TimeZone}

-- the millisecond in which a nanosecond lies, if it isn't before 1970
abbrev pub millisecond_of : ℤ → Option ℕ
millisecond_of (pos nanosecond) = Some (nanosecond / 1000000)
millisecond_of (negsuc before) = None

-- a date and time without an offset
abbrev pub lacks_offset : Error
lacks_offset = Missing Part.Offset

-- the instant at which a clock of the zone shows this date and time. Of two such instants, as when clocks go back, it
-- is the first; if there is none, as when they go forward, the offset before counts.
abbrev pub instant_in : TimeZone → DateTime → ℤ
instant_in zone shown = instant_of shown (compatible_offset (ambiguous_at zone shown))

-- the text is this date and time
abbrev pub IsDateTime : List ℕ → DateTime → Type 0
IsDateTime text shown = parse_datetime text ≡ Ok (date_parts shown.date, time_parts shown.time)

-- the text is a date and time, and a clock of the zone shows it in this millisecond
abbrev pub IsShown : TimeZone → List ℕ → ℕ → Type 0
IsShown zone text time =
    (shown : DateTime) × IsDateTime text shown × (millisecond_of (instant_in zone shown) ≡ Some time)

-- it names another zone, or is no date and time, or a clock of the zone never shows it from 1970 on
abbrev pub IsNotShown : TimeZone → List ℕ → Type 0
IsNotShown zone text =
    (list_any (λ byte. byte == 91) text ≡ true)
    ⊎ (((error : Error) × (parse_datetime text ≡ Err error))
    ⊎ ((shown : DateTime) × IsDateTime text shown
    × (IsTimestampNanos (instant_in zone shown) → millisecond_of (instant_in zone shown) ≡ None)))
