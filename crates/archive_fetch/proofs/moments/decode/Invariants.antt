use Rattle.std.proofs.Common.{◌≡◌, ◌≤◌, ◌++◌, length}
use Rattle.percent_encoding.specs.Percent.{percent_decode}
use Rattle.archive_fetch.proofs.moments.decode.Given as goal

-- what is there, and what is left, are the bytes of the text
abbrev pub invariant-loop-byte : goal.invariant-loop-byte
invariant-loop-byte l =
    (l.plain.items ++ percent_decode l.byte-iterator.bytes.now ≡ percent_decode l.text) × (length l.plain.items ≤ 64)
