use Rattle.std.proofs.Common.{arith}
use Rattle.feed_codec.proofs.Lists.{are_bytes}
use Rattle.feed_codec.proofs.PayloadFacts.{packet_short, packet_split}
use Rattle.feed_codec.proofs.payload.split_packet.Goals as goal

pub returns-then-bytes-lt-LENGTH : goal.returns-then-bytes-lt-LENGTH
returns-then-bytes-lt-LENGTH c = packet_short c.args.bytes.now c.if-bytes-lt-LENGTH.true

pub returns : goal.returns
returns c =
    packet_split c.split_at_checked.result c.args.bytes.now c.take_u32-length.result.1.now c.take_u32-length.result.0 c.take_u32-length.ensures.fits
    (are_bytes c.args.bytes.now (λ i. omega (arith, c.type_inv.bytes i))) c.take_u32-length.ensures.value c.split_at_checked.ensures.cases
