use Rattle.std.proofs.Common.{◌≡◌, ◌<◌, ◌+◌, ℕ, List, length, length-append, take, sym, ◌∙◌, ap, arith}
use Rattle.std.proofs.lemmas.List.{take_more}
use Rattle.link_chain.specs.declared.stream_state.StreamState.{StreamState}
use Rattle.import_record.specs.Resuming.{ends_of}
use Rattle.import_record.proofs.Kept.{fewer_ends, on_err}
use Rattle.import_record.proofs.resuming.push_ends.Goals as goal

pub returns-in_err-push-clause-full : goal.returns-in_err-push-clause-full
returns-in_err-push-clause-full c =
    let streams : List StreamState = c.args.streams.now in
    let ours : List ℕ = c.args.ours.now in
    let i : ℕ = c.loop-stream.stream-index in
    let fewer : length (ends_of ours (take i streams)) < length (ends_of ours streams) =
    fewer_ends ours streams i _ (take_more streams i _ c.loop-stream-test.true) (sym c.is_left.ensures ∙ c.if-is_left.true) in
    let size : length c.loop-stream.commands.items ≡ length c.args.commands.now.items + length (ends_of ours (take i streams)) =
    ap length c.loop-stream.invariant.ends ∙ length-append c.args.commands.now.items (ends_of ours (take i streams)) in
    on_err c.from_residual.result _
    (omega (arith, fewer, size, c.loop-stream.invariant.capacity, c.in_err-push.ensures.full, c.loop-stream.commands.ok.0, c.args.commands.now.ok.0))
