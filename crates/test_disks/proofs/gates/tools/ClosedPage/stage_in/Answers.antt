use Rattle.std.proofs.Common.{length, ap, arith}
use Rattle.ogg_page.specs.PageLaws.{length-page_bytes}
use Rattle.gate_file.specs.CommitLaws.{one_page}
use Rattle.test_disks.proofs.gates.tools.ClosedPage.stage_in.Goals as goal

pub stage-requires-clause-pages : goal.stage-requires-clause-pages
stage-requires-clause-pages g c = one_page c.whole.result.now c.in-Ok.page c.whole.ensures.is_page c.whole.ensures.bytes

pub stage-requires-clause-some : goal.stage-requires-clause-some
stage-requires-clause-some g c = λ none. absurd (omega (arith, ap length none, ap length c.whole.ensures.bytes, length-page_bytes c.in-Ok.page))
