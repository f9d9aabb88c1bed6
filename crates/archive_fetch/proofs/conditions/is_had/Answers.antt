use Rattle.std.proofs.Common.{inl, inr, sym, ◌∙◌}
use Rattle.std.proofs.lemmas.Slice.Eq.{bytes_eq-Decides}
use Rattle.archive_fetch.proofs.conditions.is_had.Goals as goal

pub returns-else-eq-clause-no : goal.returns-else-eq-clause-no
returns-else-eq-clause-no c none (inl is) =
    let yes = (bytes_eq-Decides c.args.value.now c.as_slice.result.now).1 (is ∙ sym c.as_slice.ensures) in
    absurd (cc (sym yes ∙ (sym c.eq.ensures ∙ c.if-eq.false)))
returns-else-eq-clause-no c none (inr (at, occurs)) = c.has_tag.ensures.no none at occurs
