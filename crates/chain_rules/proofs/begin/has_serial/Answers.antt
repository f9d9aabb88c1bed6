use Rattle.std.proofs.Common.{sym, ◌∙◌}
use Rattle.chain_rules.proofs.Streams.{any-before}
use Rattle.chain_rules.proofs.begin.has_serial.Goals as goal

pub returns : goal.returns
returns c = c.has_stream.ensures ∙ sym (any-before c.args.serial c.args.streams.now)
