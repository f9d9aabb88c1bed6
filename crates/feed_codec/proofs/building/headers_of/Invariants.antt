use Rattle.std.proofs.Common.{List, ℕ}
use Rattle.feed_records.specs.Record.{packet_bytes}
use Rattle.feed_codec.specs.Payload.{IsPacket}
use Rattle.feed_codec.proofs.Built.{AreBuilt}
use Rattle.feed_codec.proofs.building.headers_of.Given as goal

abbrev pub invariant-loop : goal.invariant-loop
invariant-loop l = (more : List ℕ) × AreBuilt IsPacket packet_bytes l.count l.counter l.bytes l.rest more l.headers
