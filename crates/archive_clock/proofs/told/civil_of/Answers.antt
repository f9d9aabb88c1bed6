use Rattle.std.proofs.Common.{◌/◌, ◌%◌, pos, ◌∙◌, ap, arith, FitsSigned, w16, w64}
use Rattle.std.proofs.lemmas.Int.{to_z-of_z, to_z_pos}
use Rattle.jiff_core.proofs.SignedLemmas.{signed_arith}
use Rattle.archive_clock.proofs.told.civil_of.Goals as goal

pub returns : goal.returns
returns c =
    let day = rw c.unwrap-date.ensures at c.from_unix_epoch_day.ensures.value in
    let fits : FitsSigned w16 c.unwrap-date.result.year = omega (arith, signed_arith) in
    let year = simp to_z-of_z at c.unsigned_abs.ensures.value in
    record {
      date = c.unwrap-date.result;
      day_is = day ∙ to_z_pos w64 (c.min-time.result / 86400000) (omega arith) ∙ ap (λ n. pos (n / 86400000)) c.min-time.ensures;
      year_is = c.from-year.ensures ∙ year;
      month_is = c.from-month.ensures;
      date_is = c.from-day.ensures;
      millisecond_is = ap (λ n. n % 86400000) c.min-time.ensures;
    }
