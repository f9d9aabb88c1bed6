use Rattle.std.proofs.Common.{length, take}
use Rattle.std.specs.List.{flat_map}
use Rattle.feed_records.specs.Record.{packet_bytes}
use Rattle.feed_records.specs.Writing.{Grows}
use Rattle.feed_records.proofs.writing.put_headers.Given as goal

-- the headers so far are written
abbrev pub invariant-loop-header : goal.invariant-loop-header
invariant-loop-header l =
    Grows l.initial.out l.out (flat_map packet_bytes (take l.header-index l.headers)) (length (flat_map packet_bytes (take l.header-index l.headers)))
