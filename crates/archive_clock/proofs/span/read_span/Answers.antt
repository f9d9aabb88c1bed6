use Rattle.std.proofs.Common.{ℕ, ◌*◌, Some, arith, ap, ◌∙◌}
use Rattle.archive_clock.proofs.Spans.{clash, span_parts}
use Rattle.archive_clock.proofs.span.read_span.Goals as goal

pub returns-then-not-is_decimal-clause-each : goal.returns-then-not-is_decimal-clause-each
returns-then-not-is_decimal-clause-each c seconds is =
    let (digits, _) = span_parts c.args.text.now c.in_ok-digits.digits.now c.in_ok-digits.letter c.number_at_front-number.result.0 seconds is c.in_ok-digits.ensures
    c.number_at_front-number.ensures.number in
    absurd (clash c.is_decimal.result (c.is_decimal.ensures.1 digits) c.if-not-is_decimal.true)

pub returns-in_err-seconds-clause-each : goal.returns-in_err-seconds-clause-each
returns-in_err-seconds-clause-each c seconds is =
    let (_, product) = span_parts c.args.text.now c.in_ok-digits.digits.now c.in_ok-digits.letter c.number_at_front-number.result.0 seconds is c.in_ok-digits.ensures
    c.number_at_front-number.ensures.number in
    let whole = ap (λ n. c.number_at_front-number.result.0 * n) c.seconds_in.ensures ∙ product in
    absurd (c.in_err-seconds.ensures (omega (arith, whole, is.fits)))

pub returns-then-seconds-gt0-clause-each : goal.returns-then-seconds-gt0-clause-each
returns-then-seconds-gt0-clause-each c seconds is =
    let (_, product) = span_parts c.args.text.now c.in_ok-digits.digits.now c.in_ok-digits.letter c.number_at_front-number.result.0 seconds is c.in_ok-digits.ensures
    c.number_at_front-number.ensures.number in
    let whole = ap (λ n. c.number_at_front-number.result.0 * n) c.seconds_in.ensures ∙ product in
    ap (λ (n : ℕ). Some n) (c.in_ok-seconds.ensures.1 ∙ whole)

pub returns-else-seconds-gt0-clause-each : goal.returns-else-seconds-gt0-clause-each
returns-else-seconds-gt0-clause-each c seconds is =
    let (_, product) = span_parts c.args.text.now c.in_ok-digits.digits.now c.in_ok-digits.letter c.number_at_front-number.result.0 seconds is c.in_ok-digits.ensures
    c.number_at_front-number.ensures.number in
    let whole = ap (λ n. c.number_at_front-number.result.0 * n) c.seconds_in.ensures ∙ product in
    absurd (omega (arith, is.some, whole, c.in_ok-seconds.ensures.1, c.if-seconds-gt0.false))
