use Rattle.std.proofs.Common.{false, take, subst}
use Rattle.std.specs.Prelude.{vec_capacity}
use Rattle.feed_codec.specs.Building.{Makes}
use Rattle.feed_codec.specs.RecordKind.{number_of}
use Rattle.feed_codec.specs.Room.{feed_room, rooms_of}
use Rattle.feed_codec.proofs.FeedFacts.{none_made, record_made}
use Rattle.feed_codec.proofs.reading.later_record.Goals as goal

pub returns-in-Ok-Some-clause-record : goal.returns-in-Ok-Some-clause-record
returns-in-Ok-Some-clause-record g c =
    let (long, has, taken) = rw c.in-Ok-Some.field-0-is at c.in-Ok-Some.ensures.head in
    let made =
    subst (λ l. Makes (vec_capacity c.args.spare.now.entries) (rooms_of c.args.spare.now.packets.items) c.args.version (number_of c.in-Ok-Some.head.kind) (take c.in-Ok-Some.head.length l) c.build_record.result) c.deref.ensures.value c.build_record.ensures in
    record_made _ _ false c.args.version (g.R.Read.remaining c.args.reader.now) (g.R.Read.remaining c.next_payload.new.reader) c.in-Ok-Some.head _ c.build_record.result has taken made

pub returns-in-Ok-Some-clause-memory : goal.returns-in-Ok-Some-clause-memory
returns-in-Ok-Some-clause-memory g c =
    let (long, has, taken) = rw c.in-Ok-Some.field-0-is at c.in-Ok-Some.ensures.head in
    let made =
    subst (λ l. Makes (vec_capacity c.args.spare.now.entries) (rooms_of c.args.spare.now.packets.items) c.args.version (number_of c.in-Ok-Some.head.kind) (take c.in-Ok-Some.head.length l) c.build_record.result) c.deref.ensures.value c.build_record.ensures in
    none_made (feed_room c.args.payload.now c.args.spare.now.entries c.args.spare.now.packets.items) false c.args.version
    (g.R.Read.remaining c.args.reader.now) (g.R.Read.remaining c.next_payload.new.reader) c.in-Ok-Some.head _ c.build_record.result has taken made
