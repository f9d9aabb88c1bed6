use Rattle.std.proofs.Common.{List, false, get_or, sym}
use Rattle.std.proofs.lemmas.Option.{slice_get-get_or}
use Rattle.link_chain.specs.declared.stream_state.StreamState.{StreamState}
use Rattle.link_chain.specs.Progress.{advanced}
use Rattle.link_chain.specs.Laws.OwnSerials.{change_one, change_none}
use Rattle.command_pages.proofs.runs.bring_stream.Goals as goal

-- what is read past the end of a list of streams
abbrev nobody : StreamState
nobody = record { serial = 0; next_sequence = 0; last_position = 0; ended = false; finished = false }

pub returns-then-place-streams : goal.returns-then-place-streams
returns-then-place-streams c =
    λ serial own is. sym (change_none serial (advanced c.args.sequence c.args.position) c.args.streams.now c.args.place is c.if-place-streams.true)

pub returns : goal.returns
returns c = λ serial own is.
    let streams : List StreamState = c.args.streams.now in
    let stream : StreamState = get_or streams c.args.place nobody in
    sym (change_one serial (advanced c.args.sequence c.args.position) streams c.args.place stream own is
    (slice_get-get_or streams c.args.place nobody c.if-place-streams.false))
