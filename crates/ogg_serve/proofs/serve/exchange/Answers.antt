use Rattle.std.proofs.Common.{None, Some, Err, ap, arith}
use Rattle.serve_machine.specs.declared.fault.HubFault.TheVariants.{Source}
use Rattle.ogg_serve.proofs.Faults.{same_fault}
use Rattle.ogg_serve.proofs.Moves.{both, has_file_is}
use Rattle.ogg_serve.proofs.OnlyRead.{read_on, failed_on}
use Rattle.ogg_serve.proofs.Sent.{at_first_in, more_in, stopped, by_head, by_piece, by_head_fault, by_fault, read_as, sent_as, tried_all, tried_as, too_long}
use Rattle.ogg_serve.proofs.serve.exchange.Goals as goal

-- ---- the head
pub returns-in-Ok-Some-clause-served : goal.returns-in-Ok-Some-clause-served
returns-in-Ok-Some-clause-served g c = λ before shown phase.
    let (after, shows, only, has) = c.in-Ok-Some.ensures.read before shown phase in (
      after,
      shows,
      only,
      by_head c.args.id _ _ _ before after before.has_file c.in-Ok-Some.served
          (read_as _ _ c.args.id before.committed after _ (Some c.in-Ok-Some.served) c.in-Ok-Some.field-0-is has),
    )

pub returns-in-Ok-Some-clause-tried : goal.returns-in-Ok-Some-clause-tried
returns-in-Ok-Some-clause-tried g c = λ before shown phase none.
    tried_all _ before.committed c.in-Ok-Some.served
    (tried_as _ _ (Some c.in-Ok-Some.served) c.in-Ok-Some.field-0-is (c.in-Ok-Some.ensures.tried before shown phase none))

pub returns-in-Err-clause-served : goal.returns-in-Err-clause-served
returns-in-Err-clause-served g c = λ before shown phase.
    let (after, shows, only, has) = c.in-Err.ensures.read before shown phase in
    (after, shows, only, by_head_fault c.args.id _ _ _ before after before.has_file c.in-Err.fault (has_file_is c.args.id before after only) has)

pub returns-in-Err-clause-tried : goal.returns-in-Err-clause-tried
returns-in-Err-clause-tried g c = λ before shown phase none. c.in-Err.ensures.tried before shown phase none

pub returns-in-Err-clause-cause : goal.returns-in-Err-clause-cause
returns-in-Err-clause-cause g c = λ is before shown phase. c.in-Err.ensures.cause (ap Err (same_fault c.in-Err.fault Source is)) before shown phase

-- ---- the pieces
pub loop-init : goal.loop-init
loop-init g c = record {
  sending = λ before shown phase.
      let (after, shows, only, has) = c.in-Ok-None.ensures.read before shown phase in
      (after, shows, only, at_first_in c.args.id _ _ _ before after (read_as _ _ c.args.id before.committed after _ None c.in-Ok-None.field-0-is has));
  disk = c.in-Ok-None.ensures.disk;
  tries = λ before shown phase none. tried_as _ _ None c.in-Ok-None.field-0-is (c.in-Ok-None.ensures.tried before shown phase none);
}

pub loop-preserved : goal.loop-preserved
loop-preserved g c =
    let d = g.D.Disk in
    record {
      sending = λ before shown phase.
          let (now, shows, only, s) = c.loop.invariant.sending before shown phase in
          let (after, shown_then, then, sent) = c.in-Ok-None-send_piece.ensures.sent now s.sending.rest shows s.sending.phase in (
            after,
            shown_then,
            both c.args.id before now after only then,
            more_in _ c.args.id _ _ _ _ _ before now after s
                (sent_as _ _ c.args.id s.sending.rest after _ None c.in-Ok-None-send_piece.field-0-is sent),
          );
      disk = read_on d _ _ _ c.loop.invariant.disk c.in-Ok-None-send_piece.ensures.disk;
      tries = λ before shown phase none.
          tried_as _ _ None c.in-Ok-None-send_piece.field-0-is (c.in-Ok-None-send_piece.ensures.tried (c.loop.invariant.tries before shown phase none));
    }

pub returns-in-Ok-Some-send_piece-clause-served : goal.returns-in-Ok-Some-send_piece-clause-served
returns-in-Ok-Some-send_piece-clause-served g c = λ before shown phase.
    let (now, shows, only, s) = c.loop.invariant.sending before shown phase in
    let (after, shown_then, then, sent) = c.in-Ok-Some-send_piece.ensures.sent now s.sending.rest shows s.sending.phase in (
      after,
      shown_then,
      both c.args.id before now after only then,
      by_piece c.args.id _ _ _ _ _ before now after before.has_file c.in-Ok-Some-send_piece.served s.sending
          (sent_as _ _ c.args.id s.sending.rest after _ (Some c.in-Ok-Some-send_piece.served) c.in-Ok-Some-send_piece.field-0-is sent),
    )

pub returns-in-Ok-Some-send_piece-clause-tried : goal.returns-in-Ok-Some-send_piece-clause-tried
returns-in-Ok-Some-send_piece-clause-tried g c = λ before shown phase none.
    tried_all _ before.committed c.in-Ok-Some-send_piece.served
    (tried_as _ _ (Some c.in-Ok-Some-send_piece.served) c.in-Ok-Some-send_piece.field-0-is
    (c.in-Ok-Some-send_piece.ensures.tried (c.loop.invariant.tries before shown phase none)))

pub returns-in-Ok-Some-send_piece-clause-disk : goal.returns-in-Ok-Some-send_piece-clause-disk
returns-in-Ok-Some-send_piece-clause-disk g c =
    let d = g.D.Disk in
    read_on d _ _ _ c.loop.invariant.disk c.in-Ok-Some-send_piece.ensures.disk

pub returns-in-Err-send_piece-clause-served : goal.returns-in-Err-send_piece-clause-served
returns-in-Err-send_piece-clause-served g c = λ before shown phase.
    let (now, shows, only, s) = c.loop.invariant.sending before shown phase in
    let (after, shown_then, then, sent) = c.in-Err-send_piece.ensures.sent now s.sending.rest shows s.sending.phase in
    let all = both c.args.id before now after only then in (
      after,
      shown_then,
      all,
      by_fault c.args.id _ _ _ _ _ before now after before.has_file c.in-Err-send_piece.fault (has_file_is c.args.id before after all) s.sending sent,
    )

pub returns-in-Err-send_piece-clause-tried : goal.returns-in-Err-send_piece-clause-tried
returns-in-Err-send_piece-clause-tried g c = λ before shown phase none.
    c.in-Err-send_piece.ensures.tried (c.loop.invariant.tries before shown phase none)

pub returns-in-Err-send_piece-clause-disk : goal.returns-in-Err-send_piece-clause-disk
returns-in-Err-send_piece-clause-disk g c =
    let d = g.D.Disk in
    read_on d _ _ _ c.loop.invariant.disk c.in-Err-send_piece.ensures.disk

pub returns-in-Err-send_piece-clause-cause : goal.returns-in-Err-send_piece-clause-cause
returns-in-Err-send_piece-clause-cause g c = λ is before shown phase.
    let d = g.D.Disk in
    let (now, shows, only, s) = c.loop.invariant.sending before shown phase in
    failed_on d _ _ _ c.loop.invariant.disk (c.in-Err-send_piece.ensures.cause (ap Err (same_fault c.in-Err-send_piece.fault Source is)) now shows)

-- ---- after so many pieces
pub returns-clause-served : goal.returns-clause-served
returns-clause-served g c = λ before shown phase.
    let (now, shows, only, s) = c.loop.invariant.sending before shown phase in
    (now, shows, only, stopped c.args.id _ _ _ _ before now s.sending)

pub returns-clause-tried : goal.returns-clause-tried
returns-clause-tried g c = λ before shown phase none.
    let (now, shows, only, s) = c.loop.invariant.sending before shown phase in
    too_long _ c.args.id _ _ _ _ _ before now s (omega (arith, c.loop-test.false, c.loop.auto.counter-end))
