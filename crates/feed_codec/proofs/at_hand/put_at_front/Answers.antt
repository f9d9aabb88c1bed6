use Rattle.std.proofs.Common.{List, ℕ, rules}
use Rattle.feed_codec.specs.declared.head.Head.{Head}
use Rattle.feed_codec.proofs.FeedFacts.{put_begins}
use Rattle.feed_codec.proofs.Lists.{cut_joins, split_joins}
use Rattle.feed_codec.proofs.at_hand.put_at_front.Goals as goal

pub returns-then-is_payload : goal.returns-then-is_payload
returns-then-is_payload c =
    let bytes : List ℕ = c.args.bytes.now in
    let behind : List ℕ = c.in_ok-head.rest.now in
    let payload : List ℕ = c.in_ok-payload.payload.now in
    let head : Head = c.in-Ok-Put.field-0 in
    let cut = c.in_ok-head.ensures.cases in
    let split = c.in_ok-payload.ensures.cases in
    put_begins c.args.version bytes c.in_ok-head.head.now behind payload c.in_ok-payload.field-0-1.now head
    (cut_joins 5 bytes c.in_ok-head.head.now behind cut.0 cut.1) c.in-Ok-Put.ensures.0 c.in-Ok-Put.ensures.1 (search rules)
    (split_joins behind payload c.in_ok-payload.field-0-1.now head.length split) split.3 (c.is_payload.ensures.0 c.if-is_payload.true)
