use Rattle.std.proofs.Common.{◌≡◌, ◌+◌, ℕ, List, Option, Some, get_or, sym, ap, ◌∙◌, arith}
use Rattle.std.specs.Option.{option_map_or}
use Rattle.std.specs.Prelude.{slice_get, slice_set}
use Rattle.std.proofs.lemmas.Option.{slice_get-get_or}
use Rattle.link_chain.specs.declared.stream_state.StreamState.{StreamState}
use Rattle.link_chain.specs.Progress.{ended_by, next_in}
use Rattle.link_chain.specs.Places.{IsPlace}
use Rattle.link_chain.specs.Laws.OwnSerials.{change_one, change_none}
use Rattle.chain_rules.proofs.Progress.{nobody}
use Rattle.chain_rules.proofs.plan.end_stream.Goals as goal

-- the stream at the place has the number that was looked up
next_there : (streams : List StreamState) (serial place : ℕ) (stream : StreamState) → IsPlace streams serial place → slice_get streams place ≡ Some stream →
    stream.next_sequence ≡ next_in streams serial
next_there streams serial place stream is at = ap (λ (o : Option StreamState). option_map_or (λ (s : StreamState). s.next_sequence) o 0) (sym at ∙ is)

pub returns-then-place-streams : goal.returns-then-place-streams
returns-then-place-streams c =
    let streams : List StreamState = c.args.streams.now in
    sym (change_none c.args.serial (ended_by (next_in streams c.args.serial + 1)) streams c.place_of-place.result c.place_of-place.ensures c.if-place-streams.true)

pub overflow_add-stream : goal.overflow_add-stream
overflow_add-stream c =
    let streams : List StreamState = c.args.streams.now in
    let stream : StreamState = get_or streams c.place_of-place.result nobody in
    omega (arith, c.requires.numbered, next_there streams c.args.serial c.place_of-place.result stream c.place_of-place.ensures (slice_get-get_or streams c.place_of-place.result nobody c.if-place-streams.false))

pub returns : goal.returns
returns c =
    let streams : List StreamState = c.args.streams.now in
    let place : ℕ = c.place_of-place.result in
    let stream : StreamState = get_or streams place nobody in
    let at = slice_get-get_or streams place nobody c.if-place-streams.false in
    ap (λ n. slice_set streams place (ended_by (n + 1) stream)) (next_there streams c.args.serial place stream c.place_of-place.ensures at)
    ∙ sym (change_one c.args.serial (ended_by (next_in streams c.args.serial + 1)) streams place stream c.requires.distinct c.place_of-place.ensures at)
