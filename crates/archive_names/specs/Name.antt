-- The names of an archive's files, NUMBER-YYYYMMDDTHHMMSSZ with -on or without, and what stands behind. Ours.
use Rattle.std.specs.Prelude.{◌≡◌, ℕ, ◌+◌, ◌-◌, ◌*◌, ◌/◌, ◌%◌, ◌≤◌, ◌^◌, ◌<◌, min, Bool, true, false, List, [], ◌∷◌, ◌++◌, length, replicate, codes, pos, unsigned_abs}
use Rattle.std.specs.Fmt.{decimal}
use Rattle.jiff_core.specs.Date.{epoch_day}
use Rattle.jiff_core.specs.declared.civil.date.Date.{Date}
use Rattle.archive_names.specs.declared.name.Kind.{Kind}
use Rattle.archive_names.specs.declared.name.Kind.TheVariants.{Pages, Times, Keep}
use Rattle.archive_names.specs.declared.name.Name.{Name}

-- decimal, with zeros in front up to this width
abbrev pub padded : ℕ → ℕ → List ℕ
padded width n = replicate (width - length (decimal n)) 48 ++ decimal n

-- the digits of a date, as a number
abbrev pub day_digits : Date → ℕ
day_digits date = unsigned_abs date.year * 10000 + date.month * 100 + date.day

-- those of a second of a day
abbrev pub clock_digits : ℕ → ℕ
clock_digits second = second / 60 / 60 * 10000 + second / 60 % 60 * 100 + second % 60

abbrev pub on_text : Bool → List ℕ
on_text true = codes "-on"
on_text false = []

abbrev pub kind_text : Kind → List ℕ
kind_text Pages = codes ".ogg"
kind_text Times = codes ".times"
kind_text Keep = codes ".ogg.keep"

-- a name's text for a second of this date, up to what stands behind
abbrev pub text_before : Name → Date → ℕ → List ℕ → List ℕ
text_before name date second rest =
    padded 6 name.number ++ 45 ∷ (padded 8 (day_digits date)
    ++ 84 ∷ (padded 6 (clock_digits second) ++ 90 ∷ (on_text name.goes_on ++ rest)))

-- the last second of the year 9999
abbrev pub last_second : ℕ
last_second = 253402300799

-- the second that a name tells
abbrev pub second_of : Name → ℕ
second_of name = min name.begin last_second

-- The text of a name: its number, the date and time at which its file was begun, in UTC, and what it is.
pub record IsText (kind : Kind) (name : Name) (text : List ℕ) : Type 0 where
  pub date : Date
  pub day_is : epoch_day date ≡ pos (second_of name / 86400)
  pub text_is : text ≡ text_before name date (second_of name % 86400) (kind_text kind)

-- names whose time can be told
abbrev pub IsName : Name → Type 0
IsName name = (name.number < 2 ^ 64) × (name.begin ≤ last_second)
