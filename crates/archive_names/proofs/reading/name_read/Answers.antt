use Rattle.std.proofs.Common.{◌≡◌, ◌/◌, ◌%◌, Bool, Some, arith, ap, ◌∙◌}
use Rattle.archive_times.specs.Reading.{number_on}
use Rattle.archive_names.specs.Name.{second_of}
use Rattle.archive_names.specs.declared.name.Kind.{Kind}
use Rattle.archive_names.specs.declared.name.Name.{Name}
use Rattle.archive_names.proofs.Texts.{is_read, name_of, pair_is}
use Rattle.archive_names.proofs.reading.name_read.Goals as goal

pub returns-in_err-day : goal.returns-in_err-day
returns-in_err-day c name kind is_name is =
    let read = is_read kind name c.args.text.now is is_name
    (c.number_at_front-number.result.0, c.number_at_front-number.result.1.now)
    (c.number_at_front-day.result.0, c.number_at_front-day.result.1.now)
    (c.number_at_front-clock.result.0, c.number_at_front-clock.result.1.now)
    (pair_is (number_on 0 c.args.text.now) _ _ c.number_at_front-number.ensures.number c.number_at_front-number.ensures.rest)
    (pair_is (number_on 0 c.number_at_front-number.result.1.now) _ _ c.number_at_front-day.ensures.number c.number_at_front-day.ensures.rest)
    (pair_is (number_on 0 c.number_at_front-day.result.1.now) _ _ c.number_at_front-clock.ensures.number c.number_at_front-clock.ensures.rest) in
    let none = c.in_err-day.ensures.each is.date (second_of name / 86400) is.day_is read.day_is in
    cc

pub returns : goal.returns
returns c name kind is_name is =
    let read = is_read kind name c.args.text.now is is_name
    (c.number_at_front-number.result.0, c.number_at_front-number.result.1.now)
    (c.number_at_front-day.result.0, c.number_at_front-day.result.1.now)
    (c.number_at_front-clock.result.0, c.number_at_front-clock.result.1.now)
    (pair_is (number_on 0 c.args.text.now) _ _ c.number_at_front-number.ensures.number c.number_at_front-number.ensures.rest)
    (pair_is (number_on 0 c.number_at_front-number.result.1.now) _ _ c.number_at_front-day.ensures.number c.number_at_front-day.ensures.rest)
    (pair_is (number_on 0 c.number_at_front-day.result.1.now) _ _ c.number_at_front-clock.ensures.number c.number_at_front-clock.ensures.rest) in
    let some = c.in_ok-day.ensures.each is.date (second_of name / 86400) is.day_is read.day_is in
    let day : c.in_ok-day.day ≡ second_of name / 86400 = cc in
    let second : c.second_of.result ≡ second_of name % 86400 = c.second_of.ensures.each (second_of name % 86400) (omega arith) read.clock_is in
    let ending : c.ending-goes_on.result ≡ (name.goes_on, kind) = c.ending-goes_on.ensures name.goes_on kind read.rest_is in
    let named = name_of name c.number_at_front-number.result.0 c.in_ok-day.day c.second_of.result c.ending-goes_on.result.0 is_name read.number_is day second
    (ap (λ (p : Bool × Kind). p.0) ending) in
    let kind_is : c.ending-goes_on.result.1 ≡ kind = ap (λ (p : Bool × Kind). p.1) ending in
    ap (λ (n : Name). let p : Name × Kind = (n, c.ending-goes_on.result.1) in Some p) named ∙ ap (λ (k : Kind). let p : Name × Kind = (name, k) in Some p) kind_is
