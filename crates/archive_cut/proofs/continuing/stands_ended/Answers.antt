use Rattle.std.proofs.Common.{sym, ◌∙◌}
use Rattle.std.proofs.lemmas.Bool.Decides.{Decides-eqb}
use Rattle.std.proofs.lemmas.Slice.Eq.{slice_eq-Decides}
use Rattle.archive_cut.proofs.Continued.{plain_ends}
use Rattle.archive_cut.proofs.continuing.stands_ended.Goals as goal

pub returns-in-Ok-bytes_at-clause-ended : goal.returns-in-Ok-bytes_at-clause-ended
returns-in-Ok-bytes_at-clause-ended g c yes' sure =
    sym (c.in-Ok-bytes_at.ensures.read sure)
    ∙ sym c.as_slice.ensures.value
    ∙ (slice_eq-Decides Decides-eqb _ _ _ c.eq.ensures).0 yes'
    ∙ c.as_slice-in-Ok-bytes_at.ensures.value
    ∙ c.in-Ok.ensures.text
    ∙ plain_ends c.wait-nobody.result.names c.args.streams.now
