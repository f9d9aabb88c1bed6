use Rattle.std.proofs.Common.{List, ℕ}
use Rattle.feed_records.specs.Record.{stream_bytes}
use Rattle.feed_codec.specs.Payload.{IsStreamOfFeed}
use Rattle.feed_codec.proofs.PayloadFacts.{begin_behind, begin_spelled, counted_long, counted_stand, counted_found}
use Rattle.feed_codec.proofs.building.begin_of.Goals as goal

pub take_u16-count-requires : goal.take_u16-count-requires
take_u16-count-requires c =
    let split = rw c.unwrap-skeleton.ensures at c.split_skeleton.ensures in
    counted_long (IsStreamOfFeed c.args.version) (stream_bytes c.args.version) c.unwrap-skeleton.result.1.now
    (begin_behind c.args.version c.args.payload.now c.unwrap-skeleton.result.1.now c.unwrap-skeleton.result.0 split.0 split.1 c.requires)

pub streams_of-requires : goal.streams_of-requires
streams_of-requires c =
    let split = rw c.unwrap-skeleton.ensures at c.split_skeleton.ensures in
    counted_stand (IsStreamOfFeed c.args.version) (stream_bytes c.args.version) c.unwrap-skeleton.result.1.now c.take_u16-count.result.1.now c.take_u16-count.result.0
    c.take_u16-count.ensures.fits c.take_u16-count.ensures.value
    (begin_behind c.args.version c.args.payload.now c.unwrap-skeleton.result.1.now c.unwrap-skeleton.result.0 split.0 split.1 c.requires)

pub returns : goal.returns
returns c =
    let split = rw c.unwrap-skeleton.ensures at c.split_skeleton.ensures in
    let behind : List ℕ = c.unwrap-skeleton.result.1.now in
    let n : ℕ = c.take_u16-count.result.0 in
    let (many, whole) = c.in_ok-streams.ensures in
    begin_spelled c.args.version c.args.payload.now behind n c.unwrap-skeleton.result.0 c.in_ok-streams.streams c.take_u16-count.ensures.fits split.0 split.1 many
    (counted_found (IsStreamOfFeed c.args.version) (stream_bytes c.args.version) behind c.take_u16-count.result.1.now n c.in_ok-streams.streams c.take_u16-count.ensures.value many whole)
