use Rattle.std.proofs.Common.{◌+◌, List, length, sym, ◌∙◌, ap}
use Rattle.std.specs.Prelude.{slice_get, unwrap_or}
use Rattle.link_chain.specs.declared.stream_state.StreamState.{StreamState}
use Rattle.link_chain.specs.Laws.OwnSerials.{hinted, first_or_end}
use Rattle.link_chain.proofs.places.place_of.Goals as goal

pub returns-then-is_place : goal.returns-then-is_place
returns-then-is_place c = hinted c.args.serial c.args.streams.now c.args.hint c.requires (sym c.is_place.ensures ∙ c.if-is_place.true)

pub returns-then-is_place-2 : goal.returns-then-is_place-2
returns-then-is_place-2 c =
    hinted c.args.serial c.args.streams.now (c.args.hint + 1) c.requires (sym c.is_place-then-hint-streams.ensures ∙ c.if-is_place-2.true)

pub returns : goal.returns
returns c =
    let streams : List StreamState = c.args.streams.now in
    ap (slice_get streams) (c.unwrap_or.ensures ∙ ap (λ o. unwrap_or o (length streams)) c.first_place.ensures)
    ∙ first_or_end c.args.serial streams
