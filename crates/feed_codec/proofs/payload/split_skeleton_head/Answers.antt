use Rattle.std.proofs.Common.{◌≡◌, ℕ, List, length, ap, ◌∙◌, arith}
use Rattle.std.proofs.lemmas.List.{length-take-le}
use Rattle.feed_codec.proofs.Lists.{are_bytes, cut_joins}
use Rattle.feed_codec.proofs.PayloadFacts.{head_short, head_found}
use Rattle.feed_codec.proofs.payload.split_skeleton_head.Goals as goal

pub returns-then-bytes-lt-SKELETON_HEAD : goal.returns-then-bytes-lt-SKELETON_HEAD
returns-then-bytes-lt-SKELETON_HEAD c = head_short c.args.bytes.now c.if-bytes-lt-SKELETON_HEAD.true

pub returns : goal.returns
returns c =
    let rest : List ℕ = c.take_fraction-2.result.1.now in
    let utc : length c.in_ok-utc.utc.now ≡ 20 =
    ap length c.in_ok-utc.ensures.cases.0
    ∙ length-take-le 20 rest (omega (arith, c.if-bytes-lt-SKELETON_HEAD.false, c.take_u32-serial.ensures.rest, c.take_fraction.ensures.rest, c.take_fraction-2.ensures.rest)) in
    head_found c.args.bytes.now c.take_u32-serial.result.1.now c.take_fraction.result.1.now rest c.in_ok-utc.rest.now c.in_ok-utc.utc.now
    c.take_u32-serial.result.0 c.take_fraction.result.0 c.take_fraction-2.result.0
    c.take_u32-serial.ensures.fits c.take_fraction.ensures.fits c.take_fraction-2.ensures.fits utc (are_bytes c.args.bytes.now (λ i. omega (arith, c.type_inv.bytes i)))
    c.take_u32-serial.ensures.value c.take_fraction.ensures.value c.take_fraction-2.ensures.value
    (cut_joins 20 rest c.in_ok-utc.utc.now c.in_ok-utc.rest.now c.in_ok-utc.ensures.cases.0 c.in_ok-utc.ensures.cases.1)
