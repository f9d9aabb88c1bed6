use Rattle.std.proofs.Common.{◌≡◌, ◌++◌, take, List, ℕ}
use Rattle.page_checksum.specs.Checksum.{checksum_of}
use Rattle.page_checksum.proofs.crc.checksum_on_each.Given as goal

abbrev pub invariant-loop-byte : goal.invariant-loop-byte
invariant-loop-byte l = (front : List ℕ) → l.before ≡ checksum_of front → l.sum ≡ checksum_of (front ++ take l.byte-index l.bytes)
