use Rattle.std.proofs.Common.{◌∙◌, ap, arith}
use Rattle.archive_record.specs.FilesState.{FilesState}
use Rattle.archive_record.proofs.Known.{one_there, one_kept, none_is_other}
use Rattle.archive_record.proofs.files.Files.open_newest.Goals as goal

pub open-requires-clause-there : goal.open-requires-clause-there
open-requires-clause-there g c = λ honest. one_there _ _ _ _ _ _ _ _ (c.self.invariant honest) c.as_slice.ensures.value (omega (arith, c.in-len1-up.len_at_least))

pub open-requires-clause-kept : goal.open-requires-clause-kept
open-requires-clause-kept g c = λ honest. one_kept _ _ _ _ _ _ _ _ (c.self.invariant honest) (none_is_other _ _ (ap (λ (s : FilesState _). s.out) c.self.view_is ∙ c.requires)) c.as_slice.ensures.value (omega (arith, c.in-len1-up.len_at_least))
