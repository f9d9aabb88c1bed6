use Rattle.std.proofs.Common.{◌≡◌, Some, ap, sym, ◌∙◌}
use Rattle.std.proofs.lemmas.Slice.Eq.{bytes_eq-Decides}
use Rattle.std.specs.Fmt.{decimal}
use Rattle.archive_times.specs.Reading.{number_on}
use Rattle.archive_fetch.proofs.Numbers.{number_is_read}
use Rattle.archive_fetch.proofs.wishes.number_of.Goals as goal

pub returns-then-eq-clause-each : goal.returns-then-eq-clause-each
returns-then-eq-clause-each c number small is =
    ap Some (c.number_at_front-number.ensures.number ∙ ap (λ text. (number_on 0 text).0) is ∙ number_is_read number small)

pub returns-else-eq-clause-each : goal.returns-else-eq-clause-each
returns-else-eq-clause-each c number small is =
    let read = c.number_at_front-number.ensures.number ∙ ap (λ text. (number_on 0 text).0) is ∙ number_is_read number small in
    let same : c.as_bytes.result.now ≡ c.args.text.now = c.as_bytes.ensures.value ∙ c.format.ensures.text ∙ ap decimal read ∙ sym is in
    let yes = (bytes_eq-Decides c.as_bytes.result.now c.args.text.now).1 same in
    absurd (cc (sym yes ∙ (sym c.eq.ensures ∙ c.if-eq.false)))
