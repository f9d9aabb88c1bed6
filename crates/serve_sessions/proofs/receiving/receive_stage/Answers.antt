use Rattle.std.proofs.Common.{Option, Ok, subst}
use Rattle.serve_sending.specs.Sending.{SendingState}
use Rattle.serve_sessions.specs.Serving.{HeadGets}
use Rattle.serve_sessions.proofs.Stages.{gets_more, gets_response, gets_fault}
use Rattle.serve_sessions.proofs.receiving.receive_stage.Goals as goal

pub returns-in-Ok-None-clause-phase : goal.returns-in-Ok-None-clause-phase
returns-in-Ok-None-clause-phase g c sure front phase is =
    let s = g.S.PageSource in
    gets_more (s.bytes c.args.window.now.source) c.args.stage.now c.in-Head.head c.receive_head.new.head c.args.bytes.now c.in-Head.is phase is
    (subst (λ (o : Option SendingState). HeadGets (s.bytes c.args.window.now.source) c.in-Head.head.items c.args.bytes.now (Ok o) c.receive_head.new.head.items) c.in-Ok-None.field-0-is (c.in-Ok-None.ensures.head sure front))

pub returns-in-Ok-Some-clause-phase : goal.returns-in-Ok-Some-clause-phase
returns-in-Ok-Some-clause-phase g c sure front phase is =
    let s = g.S.PageSource in
    gets_response (s.bytes c.args.window.now.source) c.args.stage.now c.in-Head.head c.receive_head.new.head c.args.bytes.now c.in-Head.is c.in-Ok-Some.sending phase is
    (subst (λ (o : Option SendingState). HeadGets (s.bytes c.args.window.now.source) c.in-Head.head.items c.args.bytes.now (Ok o) c.receive_head.new.head.items) c.in-Ok-Some.field-0-is (c.in-Ok-Some.ensures.head sure front))

pub returns-in-Err-clause-phase : goal.returns-in-Err-clause-phase
returns-in-Err-clause-phase g c sure front phase is =
    let s = g.S.PageSource in
    gets_fault (s.bytes c.args.window.now.source) c.args.stage.now c.in-Head.head c.receive_head.new.head c.args.bytes.now c.in-Head.is c.in-Err.fault phase is (c.in-Err.ensures.head sure front)
