use Rattle.std.proofs.Common.{ap, sym, ◌∙◌}
use Rattle.httparse.specs.Spans.{header_bytes}
use Rattle.http1.specs.Text.{eq_ignore_case}
use Rattle.serve_sources.proofs.Named.{copied_some, two_named}
use Rattle.serve_sources.proofs.fields.only.Goals as goal

pub returns-then-is_some-clause-only : goal.returns-then-is_some-clause-only
returns-then-is_some-clause-only c =
    sym (two_named (header_bytes c.args.bytes.now) c.args.name.now c.args.fields.now c.loop-field.field-index _ _ c.loop-field-test.true c.loop-field.invariant.0
    (copied_some _ (sym c.is_some.ensures ∙ c.if-is_some.true))
    (ap (λ n. eq_ignore_case n c.args.name.now) (sym c.of.ensures) ∙ sym c.eq_ignore_case.ensures ∙ c.if-eq_ignore_case.true))
