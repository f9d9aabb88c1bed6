use Rattle.std.proofs.Common.{◌≡◌, Some, drop}
use Rattle.archive_names.specs.Plan.{is_too_much}
use Rattle.archive_names.proofs.plan.is_too_much.Given as goal

abbrev pub invariant-loop-file : goal.invariant-loop-file
invariant-loop-file l = is_too_much (Some l.left) (drop l.file-index l.files) ≡ is_too_much l.fn.most l.files
