use Rattle.std.proofs.Common.{List, ℕ}
use Rattle.std.specs.Prelude.{vec_capacity}
use Rattle.std.proofs.lemmas.Result.{err_from_is_err_and}
use Rattle.feed_records.specs.Record.{entry_bytes}
use Rattle.feed_codec.specs.Payload.{IsEntryOfFeed}
use Rattle.feed_codec.specs.Room.{rooms_of}
use Rattle.feed_codec.proofs.PayloadFacts.{put_behind, put_spelled, counted_long, counted_stand, counted_found}
use Rattle.feed_codec.proofs.RoomFacts.{put_lacks}
use Rattle.feed_codec.proofs.building.put_of.Goals as goal

pub take_u16-count-requires : goal.take_u16-count-requires
take_u16-count-requires c = counted_long IsEntryOfFeed entry_bytes c.args.payload.now (put_behind c.args._version c.args.payload.now c.requires)

pub entries_of-requires : goal.entries_of-requires
entries_of-requires c =
    counted_stand IsEntryOfFeed entry_bytes c.args.payload.now c.take_u16-count.result.1.now c.take_u16-count.result.0
    c.take_u16-count.ensures.fits c.take_u16-count.ensures.value (put_behind c.args._version c.args.payload.now c.requires)

pub returns-in_err-entries-clause-full : goal.returns-in_err-entries-clause-full
returns-in_err-entries-clause-full c =
    let p = err_from_is_err_and c.from_residual.result c.from_residual.ensures.1 in
    rw p.1 (
    put_lacks c.args._version c.args.payload.now c.take_u16-count.result.1.now c.take_u16-count.result.0
    (vec_capacity c.args.spare.now.entries) (rooms_of c.args.spare.now.packets.items)
    c.take_u16-count.ensures.fits c.take_u16-count.ensures.value c.in_err-entries.ensures.full
    )

pub returns-clause-ok : goal.returns-clause-ok
returns-clause-ok c =
    let payload : List ℕ = c.args.payload.now in
    let n : ℕ = c.take_u16-count.result.0 in
    let (many, whole) = c.in_ok-entries.ensures.ok in
    put_spelled c.args._version payload n c.in_ok-entries.entries c.take_u16-count.ensures.fits many
    (counted_found IsEntryOfFeed entry_bytes payload c.take_u16-count.result.1.now n c.in_ok-entries.entries c.take_u16-count.ensures.value many whole)
