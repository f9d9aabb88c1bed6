use Rattle.std.proofs.Common.{◌≡◌, ℕ, List, [], ◌++◌, ◌∙◌, ap, append-nil}
use Rattle.std.specs.List.{flat_map}
use Rattle.feed_records.specs.Record.{entry_bytes}
use Rattle.feed_codec.specs.Payload.{IsEntryOfFeed, IsPayload}
use Rattle.feed_codec.proofs.Spellings.{same_entry}
use Rattle.feed_codec.proofs.PayloadFacts.{put_behind, put_found, counted_short, counted_cut, counted_whole, counted_found, is_nothing, nothing_is}
use Rattle.feed_codec.proofs.payload.is_put.Goals as goal

pub returns-then-payload-lt-COUNT : goal.returns-then-payload-lt-COUNT
returns-then-payload-lt-COUNT c =
    (λ t. absurd (cc t), λ p. absurd (counted_short IsEntryOfFeed entry_bytes c.args.payload.now c.if-payload-lt-COUNT.true (put_behind c.args._version c.args.payload.now p)))

pub returns-in-None : goal.returns-in-None
returns-in-None c = (
  λ t. absurd (cc t),
  λ p. absurd (counted_cut IsEntryOfFeed entry_bytes c.args.payload.now c.take_u16-count.result.1.now c.take_u16-count.result.0
      c.take_u16-count.ensures.fits c.take_u16-count.ensures.value c.in-None.ensures (put_behind c.args._version c.args.payload.now p)),
)

pub returns-in-Some : goal.returns-in-Some
returns-in-Some c =
    let payload : List ℕ = c.args.payload.now in
    let n : ℕ = c.take_u16-count.result.0 in
    let rest : List ℕ = c.take_u16-count.result.1.now in
    let some = c.in-Some.ensures in
    let found : c.in-Some.rest.now ≡ [] → IsPayload c.args._version 2 payload =
    λ none. put_found c.args._version payload n some.0 c.take_u16-count.ensures.fits some.1
    (counted_found IsEntryOfFeed entry_bytes payload rest n some.0 c.take_u16-count.ensures.value some.1
    (some.2 ∙ ap (λ l. flat_map entry_bytes some.0 ++ l) none ∙ append-nil (flat_map entry_bytes some.0))) in (
      λ t. found (is_nothing c.in-Some.rest.now c.is_empty.result c.is_empty.ensures t),
      λ p. nothing_is c.in-Some.rest.now c.is_empty.result c.is_empty.ensures
          (counted_whole IsEntryOfFeed entry_bytes same_entry payload rest c.in-Some.rest.now n c.take_u16-count.ensures.fits c.take_u16-count.ensures.value some (put_behind c.args._version payload p)),
    )
