use Rattle.std.proofs.Common.{◌≡◌, [], drop}
use Rattle.feed_records.specs.Record.{entry_bytes}
use Rattle.feed_codec.specs.Payload.{IsEntryOfFeed}
use Rattle.feed_codec.specs.Room.{rooms_of}
use Rattle.feed_codec.proofs.Built.{AreBuilt}
use Rattle.feed_codec.proofs.building.entries_of.Given as goal

-- each entry that was built took a kept packet's room
abbrev pub invariant-loop : goal.invariant-loop
invariant-loop l =
    AreBuilt IsEntryOfFeed entry_bytes l.count l.counter l.bytes l.rest [] l.entries
    × (rooms_of l.spare.packets.items ≡ drop l.counter (rooms_of l.fn.spare.packets.items))
