-- Dates from 1970 on.
use Rattle.std.proofs.Common.{◌≡◌, ℕ, ◌+◌, ◌<◌, ◌^◌, ◌≤◌, ◌*◌, ◌/◌, ◌%◌, ℤ, pos, negsuc, ◌≤ℤ◌, arith, refl, ap, ◌∙◌, unsigned_abs}
use Rattle.std.proofs.lemmas.Int.{by_lt_z}
use Rattle.jiff_core.proofs.CalendarLemmas.{day_count-epoch, day_count-lt_year, days_from_civil-day_count, days_in_month_bounds}
use Rattle.jiff_core.proofs.DateLemmas.{civil, epoch_day_injective}
use Rattle.jiff_core.proofs.SignedLemmas.{signed_arith}
use Rattle.jiff_core.specs.Calendar.{IsDate}
use Rattle.jiff_core.specs.Date.{epoch_day}
use Rattle.jiff_core.specs.declared.civil.date.Date.{Date}
use Rattle.archive_names.specs.Name.{day_digits}

-- the year of a day from 1970 on
pub year_from_1970 : (date : Date) (day : ℕ) → epoch_day date ≡ pos day → pos 1970 ≤ℤ date.year
year_from_1970 date day e =
    by_lt_z date.year (pos 1970)
    (λ lt. absurd (
    let before : _ = day_count-lt_year date.year date.month date.day (pos 1970) 1 1 (civil date) (omega arith) lt in
    omega (arith, signed_arith, days_from_civil-day_count date.year date.month date.day, day_count-epoch, before, e)))
    (λ ge. ge)

natural : (z : ℤ) → pos 1970 ≤ℤ z → pos (unsigned_abs z) ≡ z
natural (pos n) h = refl
natural (negsuc n) h = absurd (omega (arith, signed_arith, h))

in_year : (z : ℤ) → pos 1970 ≤ℤ z → z ≤ℤ pos 9999 → unsigned_abs z ≤ 9999
in_year (pos n) low high = omega (arith, signed_arith, high)
in_year (negsuc n) low high = absurd (omega (arith, signed_arith, low))

-- ---- the digits of a date
-- whose year, month and day they are
pub record HasDigits (date : Date) (digits : ℕ) : Type 0 where
  pub year_is : pos (digits / 10000 % 10000) ≡ date.year
  pub month_is : digits / 100 % 100 ≡ date.month
  pub day_is : digits % 100 ≡ date.day

parts : (digits year month day : ℕ) → digits ≡ year * 10000 + month * 100 + day → year < 10000 → month < 100 → day < 100
    → (digits / 10000 % 10000 ≡ year) × (digits / 100 % 100 ≡ month) × (digits % 100 ≡ day)
parts digits year month day e y m d =
    let last : digits % 100 ≡ day = omega (arith, e, d) in
    let front : digits / 100 ≡ year * 100 + month = omega (arith, e, d) in
    let middle : digits / 100 % 100 ≡ month = omega (arith, front, m) in
    let first : digits / 10000 ≡ year = omega (arith, e, m, d) in
    (omega (arith, first, y), middle, last)

pub digits_of : (date : Date) (day digits : ℕ) → epoch_day date ≡ pos day → digits ≡ day_digits date → HasDigits date digits
digits_of date day digits e are =
    let from_1970 : pos 1970 ≤ℤ date.year = year_from_1970 date day e in
    let longest = (days_in_month_bounds date.year date.month).0 in
    let small : unsigned_abs date.year ≤ 9999 = in_year date.year from_1970 date.year_in.1 in
    let month : date.month < 100 = omega (arith, date.month_in.1) in
    let last : date.day < 100 = omega (arith, date.day_in.1, longest) in
    let split = parts digits (unsigned_abs date.year) date.month date.day are (omega (arith, small)) month last in
    record { year_is = ap (λ n. pos n) split.0 ∙ natural date.year from_1970; month_is = split.1; day_is = split.2 }

-- they are a date's
is_date : (date : Date) → IsDate date.year (pos date.month) (pos date.day)
is_date date = omega (arith, signed_arith, date.year_in, date.month_in, date.day_in)

pub is_date_of : (date : Date) (year month day : ℤ) → year ≡ date.year → month ≡ pos date.month → day ≡ pos date.day → IsDate year month day
is_date_of date year month day y m d = rw (y, m, d) (is_date date)

pub digits_small : (date : Date) (day : ℕ) → epoch_day date ≡ pos day → day_digits date < 2 ^ 64
digits_small date day e =
    let longest = (days_in_month_bounds date.year date.month).0 in
    let small : unsigned_abs date.year ≤ 9999 = in_year date.year (year_from_1970 date day e) date.year_in.1 in
    omega (arith, small, date.month_in.1, date.day_in.1, longest)

-- a day has one date
pub same_digits : (a b : Date) → epoch_day a ≡ epoch_day b → day_digits a ≡ day_digits b
same_digits a b e =
    let same = epoch_day_injective a b e in
    let y : unsigned_abs a.year ≡ unsigned_abs b.year = ap unsigned_abs same.0 in
    omega (arith, y, same.1, same.2)
