use Rattle.std.proofs.Common.{[]}
use Rattle.feed_records.specs.Record.{stream_bytes}
use Rattle.feed_codec.specs.Payload.{IsStreamOfFeed}
use Rattle.feed_codec.proofs.Spellings.{same_stream}
use Rattle.feed_codec.proofs.PayloadFacts.{left_first}
use Rattle.feed_codec.proofs.Built.{part_built}
use Rattle.feed_codec.proofs.building.streams_of.Goals as goal

pub stream_of-requires : goal.stream_of-requires
stream_of-requires c =
    left_first (IsStreamOfFeed c.args.version) (stream_bytes c.args.version) c.loop.rest.now [] c.loop.counter c.args.count c.loop-test.true c.loop.invariant.2

pub loop-preserved : goal.loop-preserved
loop-preserved c =
    part_built (IsStreamOfFeed c.args.version) (stream_bytes c.args.version) (same_stream c.args.version) c.args.count c.loop.counter c.args.bytes.now c.loop.rest.now
    c.in_ok-stream.behind.now [] c.loop.streams c.push_reserved.new.self c.in_ok-stream.stream c.loop-test.true c.loop.invariant c.in_ok-stream.ensures.0 c.in_ok-stream.ensures.1
    c.push_reserved.ensures.items c.push_reserved.ensures.len c.push_reserved.ensures.capacity
