use Rattle.std.proofs.Common.{[], sym, ◌∙◌, append-nil}
use Rattle.serve_sessions.proofs.Joined.{join_is_source}
use Rattle.serve_sessions.proofs.joining.join_source.Goals as goal

pub returns-in-Ok-clause-joins : goal.returns-in-Ok-clause-joins
returns-in-Ok-clause-joins g c links moment sure are is place =
    let s = g.S.PageSource in
    let bytes = s.bytes c.args.source.now in
    let long = g.met.S.PageSource.fits c.args.source.now sure ∙ sym c.end-end.ensures in
    c.in-Ok.ensures.joins bytes [] links moment sure (sym (append-nil bytes)) long are (c.last_streams.ensures.last links is) place

pub returns-in-Err-clause-cause : goal.returns-in-Err-clause-cause
returns-in-Err-clause-cause g c links moment sure are is place e =
    let s = g.S.PageSource in
    let bytes = s.bytes c.args.source.now in
    let long = g.met.S.PageSource.fits c.args.source.now sure ∙ sym c.end-end.ensures in
    c.in-Err.ensures.cause bytes [] links moment sure (sym (append-nil bytes)) long are (c.last_streams.ensures.last links is) place
    (join_is_source c.in-Err.fault c.fault_of_join.result c.fault_of_join.ensures e)
