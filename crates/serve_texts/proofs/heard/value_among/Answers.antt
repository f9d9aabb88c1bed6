use Rattle.std.proofs.Common.{◌-◌, ap, arith, sym, ◌∙◌}
use Rattle.serve_texts.specs.Heard.{value_among}
use Rattle.serve_texts.proofs.Lines.{after_it}
use Rattle.serve_texts.proofs.heard.value_among.Goals as goal

pub loop-left-preserved : goal.loop-left-preserved
loop-left-preserved c =
    ap (value_among (c.loop-left.left - 1) c.args.name.now) c.rest_after-rest.ensures
    ∙ sym (after_it c.loop-left.left c.in-Some.end c.args.name.now c.loop-left.rest.now _ (λ e. omega (arith, e, c.loop-left-test.true)) (sym c.line_end.ensures ∙ c.in-Some.is) c.trimmed-line.ensures (sym c.is_empty.ensures ∙ c.if-is_empty.false) (sym c.is_field.ensures ∙ c.if-is_field.false))
    ∙ c.loop-left.invariant
