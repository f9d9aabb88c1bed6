use Rattle.std.proofs.Common.{◌∙◌, ap}
use Rattle.archive_fetch.specs.Heads.{disposition, with_lines}
use Rattle.archive_fetch.proofs.heads.cut_head.Goals as goal

pub returns-in-Ok : goal.returns-in-Ok
returns-in-Ok c = (
  c.utc_of-from.result,
  c.utc_of-to.result,
  c.utc_of-from.ensures,
  c.utc_of-to.ensures,
  c.in-Ok.ensures ∙ ap (with_lines (disposition c.utc_of-from.result c.utc_of-to.result)) c.in_ok-head.ensures,
)
