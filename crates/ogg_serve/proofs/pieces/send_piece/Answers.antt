use Rattle.std.proofs.Common.{Ok, Err, refl, subst}
use Rattle.serve_machine.specs.Calls.{given_in}
use Rattle.serve_machine.specs.Hub.{Pull, Sending}
use Rattle.ogg_serve.specs.Pieces.{piece}
use Rattle.std.specs.Io.KnownBytes.{Appends}
use Rattle.ogg_page.specs.Output.{WritesPrefix}
use Rattle.ogg_serve.proofs.Faults.{pulls as met}
use Rattle.ogg_serve.proofs.Moves.{only_serves}
use Rattle.ogg_serve.proofs.Written.{all_given, all_short, more_left}
use Rattle.ogg_serve.proofs.pieces.send_piece.Goals as goal

pub returns-in-Ok-write-clause-sent : goal.returns-in-Ok-write-clause-sent
returns-in-Ok-write-clause-sent g c = λ before rest shown sending.
    let s = c.in-Ok.ensures.step before shown in
    let pulled = c.calls_move_their_session.ensures.pull before s.0 c.args.id piece rest _ sending s.2 in (
      s.0,
      s.1,
      only_serves c.other_sessions_stay.ensures c.calls_move_their_session.ensures.file c.sessions_are_numbered.ensures.kept before s.0 (Pull c.args.id piece (given_in c.pull.new.buffer (Ok c.in-Ok.pulled))) c.args.id s.2 refl,
      (
        subst (λ bytes. Appends (g.W.Write.contents c.args.writer.now) (g.W.Write.contents c.write.new.writer) bytes)
            (all_given c.args.id rest piece _ s.0 pulled c.if-pulled.true) c.in-Ok-write.ensures.ok,
        all_short c.args.id rest piece _ s.0 pulled c.if-pulled.true,
      ),
    )

pub returns-in-Ok-2-clause-sent : goal.returns-in-Ok-2-clause-sent
returns-in-Ok-2-clause-sent g c = λ before rest shown sending.
    let s = c.in-Ok.ensures.step before shown in
    let pulled = c.calls_move_their_session.ensures.pull before s.0 c.args.id piece rest _ sending s.2 in (
      s.0,
      s.1,
      only_serves c.other_sessions_stay.ensures c.calls_move_their_session.ensures.file c.sessions_are_numbered.ensures.kept before s.0 (Pull c.args.id piece (given_in c.pull.new.buffer (Ok c.in-Ok.pulled))) c.args.id s.2 refl,
      (subst (λ bytes. Appends (g.W.Write.contents c.args.writer.now) (g.W.Write.contents c.write.new.writer) bytes) pulled.bytes c.in-Ok-2.ensures.ok, pulled.left, more_left c.args.id rest piece _ s.0 pulled c.if-pulled.false),
    )

pub returns-in-Err-write-clause-sent : goal.returns-in-Err-write-clause-sent
returns-in-Err-write-clause-sent g c = λ before rest shown sending.
    let s = c.in-Ok.ensures.step before shown in
    let pulled = c.calls_move_their_session.ensures.pull before s.0 c.args.id piece rest _ sending s.2 in (
      s.0,
      s.1,
      only_serves c.other_sessions_stay.ensures c.calls_move_their_session.ensures.file c.sessions_are_numbered.ensures.kept before s.0 (Pull c.args.id piece (given_in c.pull.new.buffer (Ok c.in-Ok.pulled))) c.args.id s.2 refl,
      subst (λ bytes. WritesPrefix (g.W.Write.contents c.args.writer.now) (g.W.Write.contents c.write.new.writer) bytes) pulled.bytes c.in-Err-write.ensures.err,
    )

pub returns-in-Err-clause-sent : goal.returns-in-Err-clause-sent
returns-in-Err-clause-sent g c = λ before rest shown sending.
    let s = c.in-Err.ensures.step before shown in
    let met_it = met c.calls_move_their_session.ensures.close before s.0 c.args.id (Sending rest) piece c.in-Err.fault sending s.2 in
    (s.0, s.1, only_serves c.other_sessions_stay.ensures c.calls_move_their_session.ensures.file c.sessions_are_numbered.ensures.kept before s.0 (Pull c.args.id piece (Err c.in-Err.fault)) c.args.id s.2 refl, (met_it.0, met_it.1, refl))
