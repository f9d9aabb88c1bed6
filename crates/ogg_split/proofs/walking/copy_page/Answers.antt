use Rattle.std.proofs.Common.{length, ap, arith}
use Rattle.ogg_page.specs.PageLaws.{length-page_bytes}
use Rattle.ogg_split.proofs.walking.copy_page.Goals as goal

pub returns-in-Ok-clause-bound : goal.returns-in-Ok-clause-bound
returns-in-Ok-clause-bound g c = omega (arith, ap length c.whole-in-Ok.ensures.bytes, length-page_bytes c.args.page.now)
