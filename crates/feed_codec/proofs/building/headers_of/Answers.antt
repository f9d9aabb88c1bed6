use Rattle.std.proofs.Common.{◌++◌, sym, ap, ◌∙◌, subst}
use Rattle.feed_records.specs.Record.{packet_bytes}
use Rattle.feed_codec.specs.Payload.{IsPacket, BeginsNone}
use Rattle.feed_codec.proofs.Spellings.{same_packet}
use Rattle.feed_codec.proofs.PayloadFacts.{stands, left_stands}
use Rattle.feed_codec.proofs.Built.{part_built}
use Rattle.feed_codec.proofs.building.headers_of.Goals as goal

pub unwrap-requires : goal.unwrap-requires
unwrap-requires c =
    let (more, built) = c.loop.invariant in
    stands c.split_packet.result (BeginsNone IsPacket packet_bytes c.loop.rest.now) _ c.split_packet.ensures
    (left_stands IsPacket packet_bytes c.loop.rest.now more c.loop.counter c.args.count c.loop-test.true built.2)

pub loop-preserved : goal.loop-preserved
loop-preserved c =
    let split = rw c.unwrap.ensures at c.split_packet.ensures in
    let copied = c.in_ok-packet_of.ensures in (
      c.loop.invariant.0,
      part_built IsPacket packet_bytes same_packet c.args.count c.loop.counter c.args.bytes.now c.loop.rest.now c.unwrap.result.1.now c.loop.invariant.0 c.loop.headers c.push_reserved.new.self c.in_ok-packet_of.field-0
          c.loop-test.true c.loop.invariant.1 (subst IsPacket (sym copied) split.0) (split.1 ∙ ap (λ l. packet_bytes l ++ c.unwrap.result.1.now) (sym copied))
          c.push_reserved.ensures.items c.push_reserved.ensures.len c.push_reserved.ensures.capacity,
    )
