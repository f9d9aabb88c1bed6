use Rattle.std.proofs.Common.{[]}
use Rattle.feed_records.specs.Record.{stream_bytes}
use Rattle.feed_codec.specs.Payload.{IsStreamOfFeed}
use Rattle.feed_codec.proofs.Built.{AreBuilt}
use Rattle.feed_codec.proofs.building.streams_of.Given as goal

abbrev pub invariant-loop : goal.invariant-loop
invariant-loop l = AreBuilt (IsStreamOfFeed l.version) (stream_bytes l.version) l.count l.counter l.bytes l.rest [] l.streams
