use Rattle.std.proofs.Common.{◌∙◌, arith, FitsSigned, w16, w64}
use Rattle.std.proofs.lemmas.Int.{to_z-of_z, to_z_pos}
use Rattle.jiff_core.proofs.SignedLemmas.{signed_arith}
use Rattle.archive_names.proofs.name.day_digits.Goals as goal

pub returns : goal.returns
returns c =
    let day = rw c.unwrap-date.ensures at c.from_unix_epoch_day.ensures.value in
    let fits : FitsSigned w16 c.unwrap-date.result.year = omega (arith, signed_arith) in
    let year = simp to_z-of_z at c.unsigned_abs.ensures.value in
    (c.unwrap-date.result, day ∙ to_z_pos w64 c.args.day (omega arith), omega (arith, c.from.ensures, c.from-2.ensures, c.from-3.ensures, year))
