use Rattle.feed_codec.proofs.PayloadFacts.{stream_short, stream_cut, stream_split}
use Rattle.feed_codec.proofs.payload.skip_stream.Goals as goal

pub returns-then-bytes-lt-STREAM_FRONT : goal.returns-then-bytes-lt-STREAM_FRONT
returns-then-bytes-lt-STREAM_FRONT c = stream_short c.args.version c.args.bytes.now c.if-bytes-lt-STREAM_FRONT.true

pub returns-in_err-rest : goal.returns-in_err-rest
returns-in_err-rest c =
    rw c.from_residual.ensures
    (stream_cut c.args.version c.args.bytes.now c.take_u32.result.1.now c.take_u16-count.result.1.now c.take_u32.result.0 c.take_u16-count.result.0
    c.take_u32.ensures.fits c.take_u16-count.ensures.fits c.take_u32.ensures.value c.take_u16-count.ensures.value c.in_err-rest.ensures)

pub returns : goal.returns
returns c =
    stream_split c.args.version c.skip_behind.result c.args.bytes.now c.take_u32.result.1.now c.take_u16-count.result.1.now c.in_ok-rest.rest.now c.take_u32.result.0 c.take_u16-count.result.0
    c.take_u32.ensures.fits c.take_u16-count.ensures.fits c.take_u32.ensures.value c.take_u16-count.ensures.value c.in_ok-rest.ensures c.skip_behind.ensures
