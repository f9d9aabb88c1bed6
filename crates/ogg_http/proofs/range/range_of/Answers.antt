use Rattle.std.proofs.Common.{◌≡◌, Some, None, ap, sym, ◌∙◌}
use Rattle.ogg_http.specs.Range.{selected}
use Rattle.ogg_http.proofs.Splitting.{some_injective}
use Rattle.ogg_http.proofs.RangeGrammar.{spec_each, spec_read}
use Rattle.ogg_http.proofs.range.range_of.Goals as goal

pub returns-in-Some-clause-spelled : goal.returns-in-Some-clause-spelled
returns-in-Some-clause-spelled c spec spells some =
    c.selected.ensures
    ∙ ap (λ s. selected s c.args.len) (some_injective _ _ (c.in-Some.ensures ∙ spec_each spec c.args.text.now spells))

pub returns-in-Some-clause-other : goal.returns-in-Some-clause-other
returns-in-Some-clause-other c none =
    absurd (none c.in-Some.spec (spec_read c.in-Some.spec c.args.text.now (sym c.in-Some.ensures)))

pub returns-in-None-clause-spelled : goal.returns-in-None-clause-spelled
returns-in-None-clause-spelled c spec spells some =
    let both : None ≡ Some spec = c.in-None.ensures ∙ spec_each spec c.args.text.now spells in
    absurd (cc both)
