use Rattle.std.proofs.Common.{None, Some, Err, suc, refl, inl, ap, subst, arith}
use Rattle.serve_hub.specs.Images.{failures_in}
use Rattle.serve_machine.specs.Hub.{phase_of}
use Rattle.serve_machine.specs.declared.fault.HubFault.{HubFault}
use Rattle.serve_machine.specs.declared.fault.HubFault.TheVariants.{Source}
use Rattle.ogg_serve.specs.Pieces.{LeftBy}
use Rattle.ogg_serve.proofs.Continuing.{read, then_on}
use Rattle.ogg_serve.proofs.Failing.{was_read, has_failed, has_file, failed_later}
use Rattle.ogg_serve.proofs.Faults.{same_fault}
use Rattle.ogg_serve.proofs.Moves.{of_all, others_both}
use Rattle.ogg_serve.proofs.Taken.{as_many}
use Rattle.ogg_serve.proofs.Sent.{at_first_in, later_in, more_in, by_head_in, by_piece_in, by_head_fault_in, by_fault_in, ended_in, read_as, sent_as, tried_all, tried_as, too_long}
use Rattle.ogg_serve.proofs.live.exchange.Goals as goal

-- ---- the head
pub returns-in-Ok-Some-clause-served : goal.returns-in-Ok-Some-clause-served
returns-in-Ok-Some-clause-served g c = λ before shown phase.
    let (after, shows, only, has) = c.in-Ok-Some.ensures.read before shown phase in (
      after,
      shows,
      only.others,
      (
        0,
        (refl, only.file),
        by_head_in c.args.id _ _ _ before after after.has_file c.in-Ok-Some.served
            (read_as _ _ c.args.id before.committed after _ (Some c.in-Ok-Some.served) c.in-Ok-Some.field-0-is has),
      ),
    )

pub returns-in-Ok-Some-clause-tried : goal.returns-in-Ok-Some-clause-tried
returns-in-Ok-Some-clause-tried g c = λ before shown phase none.
    tried_all _ before.committed c.in-Ok-Some.served
    (tried_as _ _ (Some c.in-Ok-Some.served) c.in-Ok-Some.field-0-is (c.in-Ok-Some.ensures.tried before shown phase none))

pub returns-in-Err-clause-served : goal.returns-in-Err-clause-served
returns-in-Err-clause-served g c = λ before shown phase.
    let (after, shows, only, has) = c.in-Err.ensures.read before shown phase in
    (after, shows, only.others, (0, (refl, only.file), by_head_fault_in c.args.id _ _ _ before after c.in-Err.fault has))

pub returns-in-Err-clause-tried : goal.returns-in-Err-clause-tried
returns-in-Err-clause-tried g c = λ before shown phase none. c.in-Err.ensures.tried before shown phase none

pub returns-in-Err-clause-cause : goal.returns-in-Err-clause-cause
returns-in-Err-clause-cause g c = λ is before shown phase.
    let d = g.D.Disk in
    let (after, shows, only, has) = c.in-Err.ensures.read before shown phase in
    let left = subst (λ (fault : HubFault). LeftBy fault after.has_file (phase_of after c.args.id)) (same_fault c.in-Err.fault Source is) has.0 in
    let some = has_file d _ _ after shows.place left.0 in
    has_failed d _ _ _ _ some
    (c.in-Err.ensures.cause (ap Err (same_fault c.in-Err.fault Source is)) before shown phase)

pub returns-in-Ok-Some-clause-history : goal.returns-in-Ok-Some-clause-history
returns-in-Ok-Some-clause-history g c = λ before shown phase.
    let d = g.D.Disk in
    read d c.disks_stand_in_their_world.ensures.step c.args.hub.now c.read_head.new.hub
    c.in-Ok-Some.ensures.disk c.in-Ok-Some.ensures.lost

pub returns-in-Err-clause-history : goal.returns-in-Err-clause-history
returns-in-Err-clause-history g c = λ before shown phase.
    let d = g.D.Disk in
    read d c.disks_stand_in_their_world.ensures.step c.args.hub.now c.read_head.new.hub
    c.in-Err.ensures.disk c.in-Err.ensures.lost

-- ---- the pieces
pub loop-init : goal.loop-init
loop-init g c = record {
  sending = λ before shown phase.
      let (after, shows, only, has) = c.in-Ok-None.ensures.read before shown phase in (
        after,
        shows,
        only.others,
        (refl, only.file),
        at_first_in c.args.id _ _ _ before after (read_as _ _ c.args.id before.committed after _ None c.in-Ok-None.field-0-is has),
      );
  tries = λ before shown phase none. tried_as _ _ None c.in-Ok-None.field-0-is (c.in-Ok-None.ensures.tried before shown phase none);
  history = λ before shown phase.
      let d = g.D.Disk in
      read d c.disks_stand_in_their_world.ensures.step c.args.hub.now c.read_head.new.hub
      c.in-Ok-None.ensures.disk c.in-Ok-None.ensures.lost;
  later = λ before shown phase.
      let d = g.D.Disk in
      was_read d _ _ _ _ c.in-Ok-None.ensures.disk c.in-Ok-None.ensures.lost;
}

pub returns-in-Ok-Some-send_piece-clause-served : goal.returns-in-Ok-Some-send_piece-clause-served
returns-in-Ok-Some-send_piece-clause-served g c = λ before shown phase.
    let (now, shows, keeps, took, s) = c.loop.invariant.sending before shown phase in
    let (then, shown_then, all, step) = c.go_on.ensures.took now shows in
    let t = later_in _ c.args.id _ _ _ _ before now then s (all.phases c.args.id) in
    let (after, shown_after, only, sent) = c.in-Ok-Some-send_piece.ensures.sent then t.sending.rest shown_then t.sending.phase in (
      after,
      shown_after,
      others_both c.args.id before then after (others_both c.args.id before now then keeps (of_all c.args.id now then all)) only.others,
      (
        suc _,
        (c.loop.feed, now, then, took, step, only.file),
        by_piece_in _ c.args.id _ _ _ _ _ before then after after.has_file c.in-Ok-Some-send_piece.served t
            (sent_as _ _ c.args.id t.sending.rest after _ (Some c.in-Ok-Some-send_piece.served) c.in-Ok-Some-send_piece.field-0-is sent),
      ),
    )

pub returns-in-Ok-Some-send_piece-clause-tried : goal.returns-in-Ok-Some-send_piece-clause-tried
returns-in-Ok-Some-send_piece-clause-tried g c = λ before shown phase none.
    tried_all _ before.committed c.in-Ok-Some-send_piece.served
    (tried_as _ _ (Some c.in-Ok-Some-send_piece.served) c.in-Ok-Some-send_piece.field-0-is
    (c.in-Ok-Some-send_piece.ensures.tried (c.loop.invariant.tries before shown phase none)))

pub returns-in-Err-send_piece-clause-served : goal.returns-in-Err-send_piece-clause-served
returns-in-Err-send_piece-clause-served g c = λ before shown phase.
    let (now, shows, keeps, took, s) = c.loop.invariant.sending before shown phase in
    let (then, shown_then, all, step) = c.go_on.ensures.took now shows in
    let t = later_in _ c.args.id _ _ _ _ before now then s (all.phases c.args.id) in
    let (after, shown_after, only, sent) = c.in-Err-send_piece.ensures.sent then t.sending.rest shown_then t.sending.phase in (
      after,
      shown_after,
      others_both c.args.id before then after (others_both c.args.id before now then keeps (of_all c.args.id now then all)) only.others,
      (
        suc _,
        (c.loop.feed, now, then, took, step, only.file),
        by_fault_in _ c.args.id _ _ _ _ _ before then after c.in-Err-send_piece.fault t sent,
      ),
    )

pub returns-in-Err-send_piece-clause-tried : goal.returns-in-Err-send_piece-clause-tried
returns-in-Err-send_piece-clause-tried g c = λ before shown phase none.
    c.in-Err-send_piece.ensures.tried (c.loop.invariant.tries before shown phase none)

pub returns-in-Err-send_piece-clause-cause : goal.returns-in-Err-send_piece-clause-cause
returns-in-Err-send_piece-clause-cause g c = λ is before shown phase.
    let d = g.D.Disk in
    let (now, shows, keeps, took, s) = c.loop.invariant.sending before shown phase in
    let (then, shown_then, all, step) = c.go_on.ensures.took now shows in
    let t = later_in _ c.args.id _ _ _ _ before now then s (all.phases c.args.id) in
    let (after, shown_after, only, sent) = c.in-Err-send_piece.ensures.sent then t.sending.rest shown_then t.sending.phase in
    let left = subst (λ (fault : HubFault). LeftBy fault after.has_file (phase_of after c.args.id)) (same_fault c.in-Err-send_piece.fault Source is) sent.0 in
    let some = has_file d _ _ after shown_after.place left.0 in
    let so_far = c.loop.invariant.later before shown phase in
    let went = c.go_on.ensures.later now shows in
    failed_later (failures_in d.failures c.args.hub.now) (failures_in d.failures c.go_on.new.hub) (failures_in d.failures c.send_piece.new.hub) (omega (arith, so_far, went))
    (has_failed d _ _ _ _ some
    (c.in-Err-send_piece.ensures.cause (ap Err (same_fault c.in-Err-send_piece.fault Source is)) then shown_then))

pub returns-in-Ok-Some-send_piece-clause-history : goal.returns-in-Ok-Some-send_piece-clause-history
returns-in-Ok-Some-send_piece-clause-history g c = λ before shown phase.
    let d = g.D.Disk in
    let (now, shows, keeps, took, s) = c.loop.invariant.sending before shown phase in
    let so_far = c.loop.invariant.history before shown phase in
    let step = c.go_on.ensures.history now shows in
    let piece = read d c.disks_stand_in_their_world.ensures.step c.go_on.new.hub c.send_piece.new.hub
    c.in-Ok-Some-send_piece.ensures.disk c.in-Ok-Some-send_piece.ensures.lost in
    then_on d c.args.hub.now c.loop.hub c.send_piece.new.hub so_far
    (then_on d c.loop.hub c.go_on.new.hub c.send_piece.new.hub step piece)

pub returns-in-Err-send_piece-clause-history : goal.returns-in-Err-send_piece-clause-history
returns-in-Err-send_piece-clause-history g c = λ before shown phase.
    let d = g.D.Disk in
    let (now, shows, keeps, took, s) = c.loop.invariant.sending before shown phase in
    let so_far = c.loop.invariant.history before shown phase in
    let step = c.go_on.ensures.history now shows in
    let piece = read d c.disks_stand_in_their_world.ensures.step c.go_on.new.hub c.send_piece.new.hub
    c.in-Err-send_piece.ensures.disk c.in-Err-send_piece.ensures.lost in
    then_on d c.args.hub.now c.loop.hub c.send_piece.new.hub so_far
    (then_on d c.loop.hub c.go_on.new.hub c.send_piece.new.hub step piece)

pub loop-preserved : goal.loop-preserved
loop-preserved g c = record {
  sending = λ before shown phase.
      let (now, shows, keeps, took, s) = c.loop.invariant.sending before shown phase in
      let (then, shown_then, all, step) = c.go_on.ensures.took now shows in
      let t = later_in _ c.args.id _ _ _ _ before now then s (all.phases c.args.id) in
      let (after, shown_after, only, sent) = c.in-Ok-None-send_piece.ensures.sent then t.sending.rest shown_then t.sending.phase in (
        after,
        shown_after,
        others_both c.args.id before then after (others_both c.args.id before now then keeps (of_all c.args.id now then all)) only.others,
        as_many g.D.Disk g.F.Read.remaining g.L.Write.contents _ _ _ before after
            (c.loop.feed, now, then, took, step, only.file),
        more_in _ c.args.id _ _ _ _ _ before then after t (sent_as _ _ c.args.id t.sending.rest after _ None c.in-Ok-None-send_piece.field-0-is sent),
      );
  tries = λ before shown phase none.
      tried_as _ _ None c.in-Ok-None-send_piece.field-0-is (c.in-Ok-None-send_piece.ensures.tried (c.loop.invariant.tries before shown phase none));
  history = λ before shown phase.
      let d = g.D.Disk in
      let (now, shows, keeps, took, s) = c.loop.invariant.sending before shown phase in
      let so_far = c.loop.invariant.history before shown phase in
      let step = c.go_on.ensures.history now shows in
      let piece = read d c.disks_stand_in_their_world.ensures.step c.go_on.new.hub c.send_piece.new.hub
      c.in-Ok-None-send_piece.ensures.disk c.in-Ok-None-send_piece.ensures.lost in
      then_on d c.args.hub.now c.loop.hub c.send_piece.new.hub so_far
      (then_on d c.loop.hub c.go_on.new.hub c.send_piece.new.hub step piece);
  later = λ before shown phase.
      let d = g.D.Disk in
      let (now, shows, keeps, took, s) = c.loop.invariant.sending before shown phase in
      let so_far = c.loop.invariant.later before shown phase in
      let step = c.go_on.ensures.later now shows in
      let piece = was_read d _ _ _ _ c.in-Ok-None-send_piece.ensures.disk c.in-Ok-None-send_piece.ensures.lost in
      omega (arith, so_far, step, piece);
}

-- ---- after so many pieces
pub returns-clause-served : goal.returns-clause-served
returns-clause-served g c = λ before shown phase.
    let (now, shows, keeps, took, s) = c.loop.invariant.sending before shown phase in
    (now, shows, keeps, (_, took, ended_in _ c.args.id _ _ _ _ before now s (omega (arith, c.loop-test.false, c.loop.auto.counter-end))))

pub returns-clause-tried : goal.returns-clause-tried
returns-clause-tried g c = λ before shown phase none.
    let (now, shows, keeps, took, s) = c.loop.invariant.sending before shown phase in
    too_long _ c.args.id _ _ _ _ _ before now s (omega (arith, c.loop-test.false, c.loop.auto.counter-end))

pub returns-clause-history : goal.returns-clause-history
returns-clause-history g c = λ before shown phase. c.loop.invariant.history before shown phase
