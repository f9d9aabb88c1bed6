use Rattle.std.proofs.Common.{◌≡◌, ℕ, List, [], ◌++◌, ◌∙◌, ap, append-nil}
use Rattle.std.specs.List.{flat_map}
use Rattle.feed_records.specs.Record.{stream_bytes}
use Rattle.feed_codec.specs.Payload.{IsStreamOfFeed, IsPayload}
use Rattle.feed_codec.proofs.Spellings.{same_stream}
use Rattle.feed_codec.proofs.PayloadFacts.{begin_behind, begin_found, counted_short, counted_cut, counted_whole, counted_found, is_nothing, nothing_is}
use Rattle.feed_codec.proofs.payload.is_begin.Goals as goal

pub returns-then-rest-lt-COUNT : goal.returns-then-rest-lt-COUNT
returns-then-rest-lt-COUNT c = (
  λ t. absurd (cc t),
  λ p. absurd (counted_short (IsStreamOfFeed c.args.version) (stream_bytes c.args.version) c.in-Some.rest.now c.if-rest-lt-COUNT.true
      (begin_behind c.args.version c.args.payload.now c.in-Some.rest.now c.in-Some.field-0-0 c.in-Some.ensures.0 c.in-Some.ensures.1 p)),
)

pub returns-in-None : goal.returns-in-None
returns-in-None c = (
  λ t. absurd (cc t),
  λ p. absurd (counted_cut (IsStreamOfFeed c.args.version) (stream_bytes c.args.version) c.in-Some.rest.now c.take_u16-count.result.1.now c.take_u16-count.result.0
      c.take_u16-count.ensures.fits c.take_u16-count.ensures.value c.in-None.ensures
      (begin_behind c.args.version c.args.payload.now c.in-Some.rest.now c.in-Some.field-0-0 c.in-Some.ensures.0 c.in-Some.ensures.1 p)),
)

pub returns-in-Some-skip_streams : goal.returns-in-Some-skip_streams
returns-in-Some-skip_streams c =
    let payload : List ℕ = c.args.payload.now in
    let behind : List ℕ = c.in-Some.rest.now in
    let n : ℕ = c.take_u16-count.result.0 in
    let rest : List ℕ = c.take_u16-count.result.1.now in
    let end : List ℕ = c.in-Some-skip_streams.rest.now in
    let some = c.in-Some-skip_streams.ensures in
    let found : end ≡ [] → IsPayload c.args.version 1 payload =
    λ none. begin_found c.args.version payload behind n c.in-Some.field-0-0 some.0 c.take_u16-count.ensures.fits c.in-Some.ensures.0 c.in-Some.ensures.1 some.1
    (counted_found (IsStreamOfFeed c.args.version) (stream_bytes c.args.version) behind rest n some.0 c.take_u16-count.ensures.value some.1
    (some.2 ∙ ap (λ l. flat_map (stream_bytes c.args.version) some.0 ++ l) none ∙ append-nil (flat_map (stream_bytes c.args.version) some.0))) in (
      λ t. found (is_nothing end c.is_empty.result c.is_empty.ensures t),
      λ p. nothing_is end c.is_empty.result c.is_empty.ensures
          (counted_whole (IsStreamOfFeed c.args.version) (stream_bytes c.args.version) (same_stream c.args.version) behind rest end n c.take_u16-count.ensures.fits c.take_u16-count.ensures.value some
          (begin_behind c.args.version payload behind c.in-Some.field-0-0 c.in-Some.ensures.0 c.in-Some.ensures.1 p)),
    )
