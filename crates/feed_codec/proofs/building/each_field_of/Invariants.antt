use Rattle.std.proofs.Common.{List, ℕ}
use Rattle.feed_records.specs.Record.{field_bytes}
use Rattle.feed_codec.specs.Payload.{IsFieldOfFeed}
use Rattle.feed_codec.proofs.Built.{AreBuilt}
use Rattle.feed_codec.proofs.building.each_field_of.Given as goal

abbrev pub invariant-loop : goal.invariant-loop
invariant-loop l = (more : List ℕ) × AreBuilt IsFieldOfFeed field_bytes l.count l.counter l.bytes l.rest more l.fields
