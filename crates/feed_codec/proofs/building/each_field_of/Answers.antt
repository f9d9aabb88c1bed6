use Rattle.std.proofs.Common.{◌++◌, sym, ap, ◌∙◌, subst}
use Rattle.feed_records.specs.Record.{field_bytes}
use Rattle.feed_codec.specs.Payload.{IsFieldOfFeed, BeginsNone}
use Rattle.feed_codec.proofs.Spellings.{same_field}
use Rattle.feed_codec.proofs.PayloadFacts.{stands, left_stands}
use Rattle.feed_codec.proofs.Built.{part_built}
use Rattle.feed_codec.proofs.building.each_field_of.Goals as goal

pub unwrap-requires : goal.unwrap-requires
unwrap-requires c =
    let (more, built) = c.loop.invariant in
    stands c.split_field.result (BeginsNone IsFieldOfFeed field_bytes c.loop.rest.now) _ c.split_field.ensures
    (left_stands IsFieldOfFeed field_bytes c.loop.rest.now more c.loop.counter c.args.count c.loop-test.true built.2)

pub loop-preserved : goal.loop-preserved
loop-preserved c =
    let split = rw c.unwrap.ensures at c.split_field.ensures in
    let copied = c.in_ok-field_of.ensures in (
      c.loop.invariant.0,
      part_built IsFieldOfFeed field_bytes same_field c.args.count c.loop.counter c.args.bytes.now c.loop.rest.now c.unwrap.result.1.now c.loop.invariant.0 c.loop.fields c.push_reserved.new.self c.in_ok-field_of.field-0
          c.loop-test.true c.loop.invariant.1 (subst IsFieldOfFeed (sym copied) split.0) (split.1 ∙ ap (λ l. field_bytes l ++ c.unwrap.result.1.now) (sym copied))
          c.push_reserved.ensures.items c.push_reserved.ensures.len c.push_reserved.ensures.capacity,
    )
