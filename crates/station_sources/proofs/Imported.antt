-- What is done with a source adds up to an import.
use Rattle.std.proofs.Common.{◌≡◌, ◌⊎◌, ℕ, zero, suc, ◌+◌, ◌-◌, ◌≤◌, true, Option, None, List, [], ◌∷◌, ◌++◌, length, drop, take, slice_range, refl, sym, ◌∙◌, ap, subst, inl, inr, append_assoc, append-nil, arith}
use Rattle.std.specs.Prelude.{nat_le}
use Rattle.std.proofs.lemmas.List.{drop-drop, length-take, take-append-drop, take-take}
use Rattle.feed_records.specs.declared.item.Record.{Record}
use Rattle.feed_replies.specs.declared.reply.Reply.{Reply}
use Rattle.import_record.specs.Pushing.{Call, Came, Drains, Feeds, Imports, InputState, Stepped, bytes_in, events_in}
use Rattle.import_record.specs.Whole.{Event}
use Rattle.import_record.specs.declared.reading.ImportRun.{ImportRun}
use Rattle.import_record.specs.declared.reading.Step.{Step}
use Rattle.import_record.specs.declared.reading.Step.TheVariants.{Flushed, PassedOver, Page, Ended}
use Rattle.serve_sources.specs.declared.body.Body.{Body}
use Rattle.station_sources.specs.Air.{GoesOn, look_of}
use Rattle.station_sources.specs.Faring.{HasDecoded, HasDecodedIn, Look}
use Rattle.station_sources.specs.Taking.{input_of}
use Rattle.station_sources.specs.declared.air.OnAir.{OnAir}
use Rattle.station_sources.specs.Importing.{Fed, Finishes, Move, Moves, Noted, Took, WentOn, fed_in, rest_of}

-- ---- bytes that have come and aren't taken yet
-- what goes on is their front
front_came : (items : List ℕ) (at decoded count : ℕ) → count ≤ decoded → take count (slice_range items at (at + decoded)) ≡ take count (drop at items)
front_came items at decoded count le =
    ap (λ n. take count (take n (drop at items))) (omega arith) ∙ take-take count decoded (drop at items) le

parts_again : (items : List ℕ) (at count : ℕ) → take count (drop at items) ++ drop (at + count) items ≡ drop at items
parts_again items at count = ap (λ l. take count (drop at items) ++ l) (sym (drop-drop count at items)) ∙ take-append-drop count (drop at items)

drop_nil : (at : ℕ) → drop {A = ℕ} at [] ≡ []
drop_nil zero = refl
drop_nil (suc at) = refl

-- without a framing nothing is passed over
stays : (bytes : List ℕ) (old new : Look) → old.body ≡ None → HasDecoded bytes old new → (new.body ≡ None) × (new.at ≡ old.at) × (new.decoded ≡ length bytes)
stays bytes old new none decoded =
    let same : new ≡ record old { decoded = length bytes; starved = nat_le (length bytes) 0 } =
    subst (λ (body : Option Body). HasDecodedIn body bytes old new) none decoded in
    (ap (λ (one : Look). one.body) same ∙ none, ap (λ (one : Look). one.at) same, ap (λ (one : Look). one.decoded) same)

nothing_left : (items bytes : List ℕ) (at decoded : ℕ) → items ≡ [] → at + decoded ≤ length items → decoded ≡ length bytes → drop at items ≡ bytes
nothing_left items [] at decoded none within is = ap (drop at) none ∙ drop_nil at
nothing_left items (byte ∷ bytes) at decoded none within is = absurd (omega (arith, ap length none, within, is))

rest_stays : (old next : OnAir) → old.body ≡ None → HasDecoded (rest_of old) (look_of old) (look_of next)
    → (next.pending ≡ old.pending) ⊎ ((next.pending.items ≡ []) × (next.starved ≡ true) × (next.ended ≡ true))
    → (next.body ≡ None) × (rest_of next ≡ rest_of old)
rest_stays old next none decoded (inl same) =
    let is = stays (rest_of old) (look_of old) (look_of next) none decoded in
    (is.0, ap (λ at. drop at next.pending.items) is.1 ∙ ap (λ pending. drop old.at pending.items) same)
rest_stays old next none decoded (inr (empty, starved, ended)) =
    let is = stays (rest_of old) (look_of old) (look_of next) none decoded in
    (is.0, nothing_left next.pending.items (rest_of old) next.at next.decoded empty (subst (λ n. next.at + next.decoded ≤ n) next.pending.ok.0 next.within) is.2)

module _ {S : Type 0} (answers : S → Record → Reply → List ℕ → S → Type 0) where
  abbrev SoFar : List ℕ → OnAir → OnAir → S → S → Type 0
  SoFar fed old new before after =
      (calls : List Call) × Feeds answers calls (input_of old.import) (input_of new.import) before after
      × (old.body ≡ None → (rest_of old ++ fed ≡ bytes_in calls ++ rest_of new) × (new.body ≡ None))

  went_on : (fed : List ℕ) (old next new : OnAir) (before after : S) → GoesOn old next → SoFar fed next new before after → SoFar fed old new before after
  went_on fed old next new before after (inl (none_decoded, unseen, import, decoded, kept)) (calls, feeds, bytes_are) = (
    calls,
    subst (λ (run : ImportRun). Feeds answers calls (input_of run) (input_of new.import) before after) import feeds,
    λ none.
        let is = rest_stays old next none decoded kept in
        let rest = bytes_are is.0 in
        (ap (λ l. l ++ fed) (sym is.1) ∙ rest.0, rest.1),
  )
  went_on fed old next new before after (inr (count, passes, looks, pending)) (calls, feeds, bytes_are) =
      let items = old.pending.items in
      let came = take count (slice_range items old.at (old.at + old.decoded)) in
      let came_is : came ≡ take count (drop old.at items) = front_came items old.at old.decoded count (omega (arith, passes.within, length-take (old.at + old.decoded - old.at) (drop old.at items))) in
      let rest_is : rest_of next ≡ drop (old.at + count) items =
      ap (λ at. drop at next.pending.items) (ap (λ (one : Look). one.at) looks) ∙ ap (λ p. drop (old.at + count) p.items) pending in
      let whole : came ++ rest_of next ≡ rest_of old =
      ap (λ l. l ++ rest_of next) came_is ∙ ap (λ l. take count (drop old.at items) ++ l) rest_is ∙ parts_again items old.at count in (
        Came came ∷ calls,
        (input_of next.import, passes.comes, feeds),
        λ none.
            let rest = bytes_are (ap (λ (one : Look). one.body) looks ∙ none) in (
              ap (λ l. l ++ fed) (sym whole) ∙ append_assoc came (rest_of next) fed ∙ ap (λ l. came ++ l) rest.0 ∙ sym (append_assoc came (bytes_in calls) (rest_of new)),
              rest.1,
            ),
      )

  pub so_far : (moves : List Move) (old new : OnAir) (before after : S) → Moves answers moves old new before after → SoFar (fed_in moves) old new before after
  so_far [] old new before after (same, stays) = (
    [],
    (ap (λ (air : OnAir). input_of air.import) same, stays),
    λ none. (append-nil (rest_of old) ∙ sym (ap rest_of same), ap (λ (air : OnAir). air.body) same ∙ none),
  )
  so_far (Fed bytes ∷ later) old new before after (next, holds, moves) =
      let (calls, feeds, bytes_are) = so_far later next new before after moves in (
        calls,
        subst (λ (run : ImportRun). Feeds answers calls (input_of run) (input_of new.import) before after) holds.import feeds,
        λ none.
            let rest = bytes_are (holds.body ∙ none) in
            (sym (append_assoc (rest_of old) bytes (fed_in later)) ∙ ap (λ l. l ++ fed_in later) (sym holds.kept) ∙ rest.0, rest.1),
      )
  so_far (Noted ∷ later) old new before after (next, stays, moves) =
      let (calls, feeds, bytes_are) = so_far later next new before after moves in (
        calls,
        subst (λ (run : ImportRun). Feeds answers calls (input_of run) (input_of new.import) before after) stays.import feeds,
        λ none.
            let rest = bytes_are (stays.body ∙ none) in
            (ap (λ l. l ++ fed_in later) (sym stays.kept) ∙ rest.0, rest.1),
      )
  so_far (WentOn ∷ later) old new before after (next, goes, moves) =
      went_on (fed_in later) old next new before after goes (so_far later next new before after moves)
  so_far (Took step ∷ later) old new before after (next, mid, keeps, needs, stepped, moves) =
      let (calls, feeds, bytes_are) = so_far later next new mid after moves in (
        Stepped step next.import.input.pages.lent ∷ calls,
        (input_of next.import, mid, [], needs, stepped, feeds),
        λ none.
            let rest = bytes_are (ap (λ (one : Look). one.body) keeps.seen ∙ none) in
            let same : rest_of next ≡ rest_of old =
            ap (λ at. drop at next.pending.items) (ap (λ (one : Look). one.at) keeps.seen) ∙ ap (λ p. drop old.at p.items) keeps.pending in
            (ap (λ l. l ++ fed_in later) (sym same) ∙ rest.0, rest.1),
      )

  drains_of : (last : List Step) (old : OnAir) (new : InputState) (before after : S) → Finishes answers last old new before after
      → (calls : List Call) × Drains answers calls (input_of old.import) new before after
  drains_of [] old new before after none = absurd none
  drains_of (Ended junk ∷ later) old new before after (stepped, none) = (Stepped (Ended junk) new.pages.lent ∷ [], (stepped, refl))
  drains_of (Flushed reply ∷ later) old new before after (next, mid, stepped, finishes) =
      let (calls, drains) = drains_of later next new mid after finishes in
      (Stepped (Flushed reply) next.import.input.pages.lent ∷ calls, (input_of next.import, mid, stepped, drains))
  drains_of (PassedOver ∷ later) old new before after (next, mid, stepped, finishes) =
      let (calls, drains) = drains_of later next new mid after finishes in
      (Stepped PassedOver next.import.input.pages.lent ∷ calls, (input_of next.import, mid, stepped, drains))
  drains_of (Page offset junk taken ∷ later) old new before after (next, mid, stepped, finishes) =
      let (calls, drains) = drains_of later next new mid after finishes in
      (Stepped (Page offset junk taken) next.import.input.pages.lent ∷ calls, (input_of next.import, mid, stepped, drains))

  pub all : (moves : List Move) (last : List Step) (old mid : OnAir) (new : InputState) (before between after : S)
      → Moves answers moves old mid before between → Finishes answers last mid new between after
      → (bytes : List ℕ) × (events : List Event) × Imports answers bytes events (input_of old.import) new before after
      × (old.body ≡ None → rest_of old ++ fed_in moves ≡ bytes ++ rest_of mid)
  all moves last old mid new before between after moved finishes =
      let (calls, feeds, bytes_are) = so_far moves old mid before between moved in
      let (drained, drains) = drains_of last mid new between after finishes in (
        bytes_in calls,
        events_in calls ++ events_in drained,
        record {
          calls = calls;
          last = drained;
          mid = input_of mid.import;
          between = between;
          feeds = feeds;
          drains = drains;
          bytes_are = refl;
          events_are = refl;
        },
        λ none. (bytes_are none).0,
      )
