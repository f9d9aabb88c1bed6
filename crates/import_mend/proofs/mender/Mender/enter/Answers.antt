use Rattle.std.proofs.Common.{arith}
use Rattle.ogg_page.specs.PageLaws.{page_fits}
use Rattle.import_mend.proofs.mender.Mender.enter.Goals as goal

pub take-requires-clause-small : goal.take-requires-clause-small
take-requires-clause-small c = omega (arith, c.requires.small, page_fits c.args.page.now c.whole-bytes.ensures.is_page)
