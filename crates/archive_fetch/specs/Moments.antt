-- The time that a part of a path asks for. Ours.
use Rattle.std.specs.Prelude.{◌≡◌, ◌≢◌, ◌+◌, ◌*◌, ◌≤◌, ℕ, ℤ, List, ◌∷◌, drop, length, codes, nat_eq, nat_le, if◌then◌else◌, Option, Some, None, Ok, Err, IfSome, IsUtf8, MatchOption, slice_index}
use Rattle.std.specs.List.{starts_with}
use Rattle.jiff.specs.Words.{parse_timestamp}
use Rattle.jiff_core.specs.declared.error.Error.{Error}
use Rattle.jiff_tz.specs.declared.timezone.TimeZone.{TimeZone}
use Rattle.percent_encoding.specs.Percent.{percent_decode}
use Rattle.archive_clock.specs.Asked.{IsNotShown, IsShown, lacks_offset, millisecond_of}
use Rattle.archive_clock.specs.Span.{IsSpan, nothing}

-- a form has it as its value `at`
abbrev pub without_name : List ℕ → List ℕ
without_name text = if starts_with nat_eq text (codes "?at=") then drop 4 text else text

-- the text of the time, with what is escaped in it (RFC 3986, section 2.1)
abbrev pub time_text : List ℕ → List ℕ
time_text text = percent_decode (without_name text)

-- no time has a longer text
abbrev pub IsShortText : List ℕ → Type 0
IsShortText text = IsUtf8 text × (length text ≤ 64)

-- the time that a person asks for by this text, as `cut` reads it too
pub record IsReadAs (now : ℕ) (zone : TimeZone) (text : List ℕ) (found : Option ℕ) : Type 0 where
  pub instant : (nanosecond : ℤ) → slice_index text 0 ≢ 45 → parse_timestamp text ≡ Ok nanosecond → found ≡ millisecond_of nanosecond
  pub refused : (error : Error) → slice_index text 0 ≢ 45 → parse_timestamp text ≡ Err error → error ≢ lacks_offset → found ≡ None
  pub shown : slice_index text 0 ≢ 45 → parse_timestamp text ≡ Err lacks_offset → MatchOption found (IsNotShown zone text) (IsShown zone text)
  pub none : text ≡ 45 ∷ nothing → found ≡ Some now
  pub back : (span : List ℕ) (seconds time : ℕ) → text ≡ 45 ∷ span → span ≢ nothing → IsSpan span seconds → time + seconds * 1000 ≡ now → found ≡ Some time
  pub only : (span : List ℕ) → text ≡ 45 ∷ span → span ≢ nothing
      → IfSome found (λ time. (seconds : ℕ) × IsSpan span seconds × (time + seconds * 1000 ≡ now))

-- a time that isn't yet to come
abbrev pub past : ℕ → Option ℕ → Option ℕ
past now None = None
past now (Some time) = if nat_le time now then Some time else None
