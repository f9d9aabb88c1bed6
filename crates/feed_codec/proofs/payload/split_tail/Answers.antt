use Rattle.std.specs.Int.{w64}
use Rattle.std.proofs.lemmas.Int.{to_z-of_z}
use Rattle.feed_codec.proofs.PayloadFacts.{tail_cut, tail_short, tail_found}
use Rattle.feed_codec.proofs.payload.split_tail.Goals as goal

pub returns-in_err-media : goal.returns-in_err-media
returns-in_err-media c = rw c.from_residual.ensures (tail_cut c.args.bytes.now c.in_err-media.ensures)

pub returns-then-rest-lt-TAIL : goal.returns-then-rest-lt-TAIL
returns-then-rest-lt-TAIL c =
    tail_short c.args.bytes.now c.in_ok-media.rest.now c.in_ok-media.media.now c.in_ok-media.ensures.0 c.in_ok-media.ensures.1 c.if-rest-lt-TAIL.true

pub returns : goal.returns
returns c =
    rw (to_z-of_z w64 c.take_i64-base_granule.result.0 c.take_i64-base_granule.ensures.fits) (tail_found c.args.bytes.now c.in_ok-media.rest.now c.take_fraction.result.1.now c.take_i64-base_granule.result.1.now c.take_u32-preroll.result.1.now c.take_u8-shift.result.1.now
    c.in_ok-media.media.now c.take_fraction.result.0 c.take_i64-base_granule.result.0 c.take_u32-preroll.result.0 c.take_u8-shift.result.0
    c.in_ok-media.ensures.0 c.take_fraction.ensures.fits c.take_i64-base_granule.ensures.fits c.take_u32-preroll.ensures.fits c.take_u8-shift.ensures.fits
    c.in_ok-media.ensures.1 c.take_fraction.ensures.value c.take_i64-base_granule.ensures.value c.take_u32-preroll.ensures.value c.take_u8-shift.ensures.value)
