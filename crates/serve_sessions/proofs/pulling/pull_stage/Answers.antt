use Rattle.std.proofs.Common.{length, [], refl, sym}
use Rattle.std.proofs.lemmas.List.{append-nil}
use Rattle.serve_sessions.proofs.Stages.{rests, gives, gives_fault}
use Rattle.serve_sessions.proofs.pulling.pull_stage.Goals as goal

pub returns-in-Ok-clause-phase : goal.returns-in-Ok-clause-phase
returns-in-Ok-clause-phase g c sure phase is =
    let s = g.S.PageSource in
    let bytes = s.bytes c.args.window.now.source in
    let r = rests bytes c.args.stage.now c.in-Response.sending c.in-Response.is phase is in
    gives bytes c.in-Response.sending c.pull.new.self phase (length c.args.buffer.now) c.pull.new.buffer c.in-Ok.pulled r
    (c.in-Ok.ensures.gives bytes [] r.rest sure (sym (append-nil bytes)) r.left)

pub returns-in-Err-clause-phase : goal.returns-in-Err-clause-phase
returns-in-Err-clause-phase g c sure phase is =
    let s = g.S.PageSource in
    let bytes = s.bytes c.args.window.now.source in
    let r = rests bytes c.args.stage.now c.in-Response.sending c.in-Response.is phase is in
    gives_fault bytes c.in-Response.sending c.pull.new.self phase (length c.args.buffer.now) r c.in-Err.ensures.same
    (c.in-Err.ensures.cause bytes [] r.rest sure (sym (append-nil bytes)) r.left refl).1

pub returns-in-Err-clause-cause : goal.returns-in-Err-clause-cause
returns-in-Err-clause-cause g c e sure phase is =
    let s = g.S.PageSource in
    let bytes = s.bytes c.args.window.now.source in
    let r = rests bytes c.args.stage.now c.in-Response.sending c.in-Response.is phase is in
    (c.in-Err.ensures.cause bytes [] r.rest sure (sym (append-nil bytes)) r.left refl).0
