use Rattle.std.proofs.Common.{◌≡◌, length, take}
use Rattle.std.specs.List.{flat_map}
use Rattle.feed_records.specs.Record.{packet_bytes}
use Rattle.feed_records.specs.Fits.{capped}
use Rattle.feed_records.proofs.fits.headers_size.Given as goal

-- the headers so far are counted
abbrev pub invariant-loop-header : goal.invariant-loop-header
invariant-loop-header l = l.size ≡ capped (length (flat_map packet_bytes (take l.header-index l.headers)))
