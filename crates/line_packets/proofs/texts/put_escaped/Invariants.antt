use Rattle.std.proofs.Common.{◌≡◌, ◌++◌, drop}
use Rattle.line_packets.specs.Texts.{escaped}
use Rattle.line_packets.proofs.texts.put_escaped.Given as goal

abbrev pub invariant-loop-byte : goal.invariant-loop-byte
invariant-loop-byte l = l.out.items ++ escaped (drop l.byte-index l.text) ≡ l.initial.out.items ++ escaped l.text
