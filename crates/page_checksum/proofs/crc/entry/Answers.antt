use Rattle.std.proofs.Common.{ap, ◌∙◌, arith}
use Rattle.page_checksum.specs.Checksum.{entry_before}
use Rattle.page_checksum.proofs.Tables.{entry_at}
use Rattle.page_checksum.proofs.crc.entry.Goals as goal

pub returns : goal.returns
returns c = entry_at c.args.zeros c.from.result c.requires (omega (arith, c.from.ensures, c.ranges.byte)) ∙ ap (entry_before c.args.zeros) c.from.ensures
