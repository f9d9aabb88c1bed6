use Rattle.feed_codec.proofs.PayloadFacts.{entry_short, entry_cut, entry_found}
use Rattle.feed_codec.proofs.payload.split_entry.Goals as goal

pub returns-then-bytes-lt-ENTRY_FRONT : goal.returns-then-bytes-lt-ENTRY_FRONT
returns-then-bytes-lt-ENTRY_FRONT c = entry_short c.args.bytes.now c.if-bytes-lt-ENTRY_FRONT.true

pub returns-in_err-packet : goal.returns-in_err-packet
returns-in_err-packet c =
    rw c.from_residual.ensures
    (entry_cut c.args.bytes.now c.take_u32-serial.result.1.now c.take_u64-position.result.1.now c.take_u32-serial.result.0 c.take_u64-position.result.0
    c.take_u32-serial.ensures.fits c.take_u64-position.ensures.fits c.take_u32-serial.ensures.value c.take_u64-position.ensures.value c.in_err-packet.ensures)

pub returns : goal.returns
returns c =
    entry_found c.args.bytes.now c.take_u32-serial.result.1.now c.take_u64-position.result.1.now c.in_ok-packet.rest.now c.in_ok-packet.packet.now
    c.take_u32-serial.result.0 c.take_u64-position.result.0
    c.take_u32-serial.ensures.fits c.take_u64-position.ensures.fits c.take_u32-serial.ensures.value c.take_u64-position.ensures.value
    c.in_ok-packet.ensures.0 c.in_ok-packet.ensures.1
