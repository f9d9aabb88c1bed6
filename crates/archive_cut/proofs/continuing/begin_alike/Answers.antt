use Rattle.std.proofs.Common.{sym, ◌∙◌}
use Rattle.std.proofs.lemmas.Bool.Decides.{Decides-eqb}
use Rattle.std.proofs.lemmas.Slice.Eq.{slice_eq-Decides}
use Rattle.archive_cut.proofs.continuing.begin_alike.Goals as goal

pub returns-in-Ok-Some-firsts_of-clause-alike : goal.returns-in-Ok-Some-firsts_of-clause-alike
returns-in-Ok-Some-firsts_of-clause-alike g c olds news so sn s1 s2 yes' =
    let old_is = rw c.in-Ok-Some.field-0-is at (c.in-Ok-Some.ensures.found olds so s1) in
    let new_is = rw c.in-Ok-Some-firsts_of.field-0-is at (c.in-Ok-Some-firsts_of.ensures.found news sn s2) in
    sym old_is
    ∙ sym c.as_slice.ensures.value
    ∙ (slice_eq-Decides Decides-eqb _ _ _ c.eq.ensures).0 yes'
    ∙ c.as_slice-in-Ok-Some-firsts_of.ensures.value
    ∙ new_is
