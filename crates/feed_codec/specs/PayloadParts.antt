-- The parts of a payload, without their places in memory. Ours.
use Rattle.ogg_command.specs.declared.command.Entry.{Entry}
use Rattle.feed_records.specs.Tail.{Tail}
use Rattle.feed_codec.specs.declared.payload.EntryPart.{EntryPart}
use Rattle.feed_codec.specs.declared.payload.TailPart.{TailPart}

abbrev pub entry_of : EntryPart → Entry
entry_of part = record { serial = part.serial; position = part.position; packet = part.packet.now }

abbrev pub tail_of : TailPart → Tail
tail_of part =
    record { media = part.media.now; rate = part.rate; base_granule = part.base_granule; preroll = part.preroll; shift = part.shift }
