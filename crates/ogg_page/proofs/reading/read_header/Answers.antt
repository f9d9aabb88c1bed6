use Rattle.std.proofs.Common.{◌∙◌}
use Rattle.ogg_page.specs.Laws.HeadBytes.{header_told}
use Rattle.ogg_page.proofs.reading.read_header.Goals as goal

pub returns-clause-each : goal.returns-clause-each
returns-clause-each c there page n s le is = c.header_or_fault.ensures.exact ∙ header_told there c.args.bytes.now page n s le is
