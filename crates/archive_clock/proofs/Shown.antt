-- A time that a text shows in a zone.
use Rattle.std.proofs.Common.{◌≡◌, ℕ, List, ℤ, Option, Some, None, inr, ap, sym, ◌∙◌}
use Rattle.std.specs.Option.{MatchOption}
use Rattle.jiff_core.specs.declared.civil.datetime.DateTime.{DateTime}
use Rattle.jiff_tz.specs.declared.timezone.TimeZone.{TimeZone}
use Rattle.archive_clock.specs.Asked.{IsDateTime, IsNotShown, IsShown, instant_in, millisecond_of}

-- the millisecond of the instant of what was read
pub shown_if : (zone : TimeZone) (text : List ℕ) (shown : DateTime) (nanosecond : ℤ) (result : Option ℕ) → IsDateTime text shown
    → nanosecond ≡ instant_in zone shown → result ≡ millisecond_of nanosecond → MatchOption result (IsNotShown zone text) (IsShown zone text)
shown_if zone text shown nanosecond None read instant is = inr (inr (shown, read, λ _. sym (is ∙ ap millisecond_of instant)))
shown_if zone text shown nanosecond (Some time) read instant is = (shown, read, sym (is ∙ ap millisecond_of instant))
