use Rattle.std.proofs.Common.{◌≡◌, ◌/◌, ◌%◌, pos, arith, w8, w16, ap, ◌∙◌, unsigned_abs}
use Rattle.std.proofs.lemmas.Int.{to_z_pos}
use Rattle.jiff_core.proofs.DateLemmas.{epoch_day_same}
use Rattle.archive_names.proofs.Dates.{digits_of, is_date_of}
use Rattle.archive_names.proofs.reading.day_of.Goals as goal

pub returns-in-Ok-clause-each : goal.returns-in-Ok-clause-each
returns-in-Ok-clause-each c date day is digits =
    let has = digits_of date day c.args.digits is digits in
    let read = c.in-Ok.ensures.value in
    let year : c.in-Ok.date.year ≡ date.year = read.0 ∙ to_z_pos w16 (c.args.digits / 10000 % 10000) (omega arith) ∙ has.year_is in
    let month : c.in-Ok.date.month ≡ date.month = ap unsigned_abs (read.1 ∙ to_z_pos w8 (c.args.digits / 100 % 100) (omega arith)) ∙ has.month_is in
    let last : c.in-Ok.date.day ≡ date.day = ap unsigned_abs (read.2 ∙ to_z_pos w8 (c.args.digits % 100) (omega arith)) ∙ has.day_is in
    c.day_from_1970.ensures.each day (epoch_day_same c.in-Ok.date date year month last ∙ is)

pub returns-in-Err-clause-each : goal.returns-in-Err-clause-each
returns-in-Err-clause-each c date day is digits =
    let has = digits_of date day c.args.digits is digits in
    let never = c.in-Err.ensures.succeeds.1 (is_date_of date _ _ _
    (to_z_pos w16 (c.args.digits / 10000 % 10000) (omega arith) ∙ has.year_is)
    (to_z_pos w8 (c.args.digits / 100 % 100) (omega arith) ∙ ap (λ n. pos n) has.month_is)
    (to_z_pos w8 (c.args.digits % 100) (omega arith) ∙ ap (λ n. pos n) has.day_is)) in
    cc
