use Rattle.std.proofs.Common.{◌≡◌, ◌++◌, List, ℕ, sym, ap, ◌∙◌, subst, arith}
use Rattle.std.specs.Int.{w64}
use Rattle.std.proofs.lemmas.Int.{to_z-of_z}
use Rattle.feed_codec.specs.Payload.{BeginsNone, IsTail}
use Rattle.feed_records.specs.Tail.{Tail, tail_bytes}
use Rattle.feed_codec.specs.PayloadParts.{tail_of}
use Rattle.feed_codec.proofs.PayloadFacts.{stands, stream_long, stream_headers_stand, stream_behind_stands, behind_tail_stands, behind_fields_stand, behind_found, stream_found}
use Rattle.feed_codec.proofs.building.stream_of.Goals as goal

pub take_u32-serial-requires : goal.take_u32-serial-requires
take_u32-serial-requires c = let long = stream_long c.args.version c.args.bytes.now c.requires in omega (arith, long)

pub take_u16-count-requires : goal.take_u16-count-requires
take_u16-count-requires c = let long = stream_long c.args.version c.args.bytes.now c.requires in omega (arith, long, c.take_u32-serial.ensures.rest)

pub headers_of-requires : goal.headers_of-requires
headers_of-requires c =
    stream_headers_stand c.args.version c.args.bytes.now c.take_u32-serial.result.1.now c.take_u16-count.result.1.now c.take_u32-serial.result.0 c.take_u16-count.result.0
    c.take_u32-serial.ensures.fits c.take_u16-count.ensures.fits c.take_u32-serial.ensures.value c.take_u16-count.ensures.value c.requires

pub unwrap-requires : goal.unwrap-requires
unwrap-requires c =
    let (many, front) = c.in_ok-headers.ensures in
    stands c.split_tail.result (BeginsNone IsTail tail_bytes c.in_ok-headers.rest.now) _ c.split_tail.ensures
    (behind_tail_stands c.args.version c.in_ok-headers.rest.now
    (stream_behind_stands c.args.version c.args.bytes.now c.take_u32-serial.result.1.now c.take_u16-count.result.1.now c.in_ok-headers.rest.now c.take_u32-serial.result.0 c.take_u16-count.result.0
    c.in_ok-headers.headers c.take_u32-serial.ensures.fits c.take_u16-count.ensures.fits c.take_u32-serial.ensures.value c.take_u16-count.ensures.value many front c.requires))

pub fields_of-requires : goal.fields_of-requires
fields_of-requires c =
    let (many, front) = c.in_ok-headers.ensures in
    let split = rw c.unwrap.ensures at c.split_tail.ensures in
    behind_fields_stand c.args.version c.in_ok-headers.rest.now c.unwrap.result.1.now (tail_of c.unwrap.result.0) split.0 split.1
    (stream_behind_stands c.args.version c.args.bytes.now c.take_u32-serial.result.1.now c.take_u16-count.result.1.now c.in_ok-headers.rest.now c.take_u32-serial.result.0 c.take_u16-count.result.0
    c.in_ok-headers.headers c.take_u32-serial.ensures.fits c.take_u16-count.ensures.fits c.take_u32-serial.ensures.value c.take_u16-count.ensures.value many front c.requires)

pub returns : goal.returns
returns c =
    let (many, front) = c.in_ok-headers.ensures in
    let (are, then) = c.in_ok-fields.ensures in
    let split = rw c.unwrap.ensures at c.split_tail.ensures in
    let with : List ℕ → Tail =
    λ media. record { media = media; rate = c.unwrap.result.0.rate; base_granule = c.unwrap.result.0.base_granule; preroll = c.unwrap.result.0.preroll; shift = c.unwrap.result.0.shift } in
    let tail : IsTail (with c.in_ok-media.media) = subst (λ m. IsTail (with m)) (sym c.in_ok-media.ensures) split.0 in
    let spelled : c.in_ok-headers.rest.now ≡ tail_bytes (with c.in_ok-media.media) ++ c.unwrap.result.1.now =
    split.1 ∙ ap (λ m. tail_bytes (with m) ++ c.unwrap.result.1.now) (sym c.in_ok-media.ensures) in
    let behind = behind_found c.args.version c.in_ok-headers.rest.now c.unwrap.result.1.now c.in_ok-fields.rest.now (with c.in_ok-media.media) c.in_ok-fields.fields tail spelled are then in
    rw (to_z-of_z w64 c.unwrap.result.0.base_granule tail.base_granule)
    (stream_found c.args.version c.args.bytes.now c.take_u32-serial.result.1.now c.take_u16-count.result.1.now c.in_ok-headers.rest.now c.in_ok-fields.rest.now c.take_u32-serial.result.0 c.take_u16-count.result.0
    c.in_ok-headers.headers (with c.in_ok-media.media, c.in_ok-fields.fields)
    c.take_u32-serial.ensures.fits c.take_u16-count.ensures.fits c.take_u32-serial.ensures.value c.take_u16-count.ensures.value many front behind.0 behind.1)
