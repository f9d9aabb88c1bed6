-- A time as it is told: RFC 3339 in UTC, with milliseconds.
use Rattle.std.specs.Prelude.{◌≡◌, ℕ, ◌+◌, ◌/◌, ◌%◌, min, List, [], ◌∷◌, unsigned_abs, pos}
use Rattle.jiff_core.specs.Date.{epoch_day}
use Rattle.jiff_core.specs.declared.civil.date.Date.{Date}

-- the last digit of a number
abbrev pub digit : ℕ → ℕ
digit n = 48 + n % 10

-- YYYY-MM-DDTHH:MM:SS.mmmZ, for a millisecond of a day
abbrev pub time_text : ℕ → ℕ → ℕ → ℕ → List ℕ
time_text year month day time =
    digit (year / 1000) ∷ digit (year / 100) ∷ digit (year / 10) ∷ digit year ∷ 45
    ∷ digit (month / 10) ∷ digit month ∷ 45 ∷ digit (day / 10) ∷ digit day ∷ 84
    ∷ digit (time / 36000000) ∷ digit (time / 3600000) ∷ 58
    ∷ digit (time / 60000 % 60 / 10) ∷ digit (time / 60000 % 60) ∷ 58
    ∷ digit (time / 1000 % 60 / 10) ∷ digit (time / 1000 % 60) ∷ 46
    ∷ digit (time / 100) ∷ digit (time / 10) ∷ digit time ∷ 90 ∷ []

-- the last millisecond of the year 9999
abbrev pub last_time : ℕ
last_time = 253402300799999

-- The year, the month and the day of a time in milliseconds since 1970, and the millisecond of the day. What lies past
-- the year 9999 is told as its last millisecond.
pub record IsCivil (time year month day millisecond : ℕ) : Type 0 where
  pub date : Date
  pub day_is : epoch_day date ≡ pos (min time last_time / 86400000)
  pub year_is : year ≡ unsigned_abs date.year
  pub month_is : month ≡ date.month
  pub date_is : day ≡ date.day
  pub millisecond_is : millisecond ≡ min time last_time % 86400000

-- the text of a time
pub record IsTimeText (time : ℕ) (text : List ℕ) : Type 0 where
  pub year : ℕ
  pub month : ℕ
  pub day : ℕ
  pub millisecond : ℕ
  pub civil : IsCivil time year month day millisecond
  pub text_is : text ≡ time_text year month day millisecond

-- ---- in a Skeleton
-- YYYYMMDDTHHMMSS.mmmZ, for a millisecond of a day
abbrev pub utc_text : ℕ → ℕ → ℕ → ℕ → List ℕ
utc_text year month day time =
    digit (year / 1000) ∷ digit (year / 100) ∷ digit (year / 10) ∷ digit year
    ∷ digit (month / 10) ∷ digit month ∷ digit (day / 10) ∷ digit day ∷ 84
    ∷ digit (time / 36000000) ∷ digit (time / 3600000)
    ∷ digit (time / 60000 % 60 / 10) ∷ digit (time / 60000 % 60)
    ∷ digit (time / 1000 % 60 / 10) ∷ digit (time / 1000 % 60) ∷ 46
    ∷ digit (time / 100) ∷ digit (time / 10) ∷ digit time ∷ 90 ∷ []

-- the text of a time, as a fishead has it (Skeleton 3.0)
pub record IsUtcText (time : ℕ) (text : List ℕ) : Type 0 where
  pub year : ℕ
  pub month : ℕ
  pub day : ℕ
  pub millisecond : ℕ
  pub civil : IsCivil time year month day millisecond
  pub text_is : text ≡ utc_text year month day millisecond
