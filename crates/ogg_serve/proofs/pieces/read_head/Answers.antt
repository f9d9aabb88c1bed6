use Rattle.std.proofs.Common.{Ok, Err, refl, ◌∙◌, ap, arith}
use Rattle.std.proofs.lemmas.List.{length-take-le}
use Rattle.serve_machine.specs.declared.answers.Progress.TheVariants.{More, Ready}
use Rattle.serve_machine.specs.declared.fault.HubFault.TheVariants.{Source}
use Rattle.serve_machine.specs.Hub.{Receive, Reading}
use Rattle.ogg_serve.proofs.Faults.{receives as met, same_fault}
use Rattle.ogg_serve.proofs.Moves.{only_serves, both}
use Rattle.ogg_serve.proofs.OnlyRead.{unread, read_on, failed_on}
use Rattle.ogg_serve.proofs.Received.{at_first, longer, ready, some_read, taken, never_so_long}
use Rattle.ogg_serve.proofs.pieces.read_head.Goals as goal

pub loop-init : goal.loop-init
loop-init g c =
    let d = g.D.Disk in
    record {
      reading = λ before shown phase. (before, shown, at_first c.args.id _ before phase, omega arith);
      disk = unread d c.args.hub.now.file (λ disk h image since. (g.met.D.Disk.laws disk h).only_now image since);
      tries = refl;
      lost = refl;
    }

pub returns-in-Ok-Ready-clause-read : goal.returns-in-Ok-Ready-clause-read
returns-in-Ok-Ready-clause-read g c = λ before shown phase.
    let (now, shows, r, many) = c.loop.invariant.reading before shown phase in
    let s = c.in-Ok-Ready.ensures.step now shows in
    let has = c.calls_move_their_session.ensures.receive now s.0 c.args.id r.received _ Ready r.phase (taken now s.0 c.args.id _ _ Ready c.in-Ok-Ready.field-0-is s.2) in
    let only = only_serves c.other_sessions_stay.ensures c.calls_move_their_session.ensures.file c.sessions_are_numbered.ensures.kept now s.0 (Receive c.args.id _ (Ok c.in-Ok-Ready.field-0)) c.args.id s.2 refl in
    (s.0, s.1, both c.args.id before now s.0 r.only only, ready c.args.id _ _ _ before now s.0 _ r c.in-Some.ensures.bytes has)

pub returns-in-Ok-Ready-clause-disk : goal.returns-in-Ok-Ready-clause-disk
returns-in-Ok-Ready-clause-disk g c =
    let d = g.D.Disk in
    read_on d _ _ _ c.loop.invariant.disk c.in-Ok-Ready.ensures.disk

pub returns-in-Err-clause-read : goal.returns-in-Err-clause-read
returns-in-Err-clause-read g c = λ before shown phase.
    let (now, shows, r, many) = c.loop.invariant.reading before shown phase in
    let s = c.in-Err.ensures.step now shows in
    let only = only_serves c.other_sessions_stay.ensures c.calls_move_their_session.ensures.file c.sessions_are_numbered.ensures.kept now s.0 (Receive c.args.id _ (Err c.in-Err.fault)) c.args.id s.2 refl in (
      s.0,
      s.1,
      both c.args.id before now s.0 r.only only,
      (
        met c.calls_move_their_session.ensures.close now s.0 c.args.id (Reading r.received) _ c.in-Err.fault r.phase s.2,
        some_read c.args.id _ _ _ before now _ r c.in-Some.ensures.bytes,
      ),
    )

pub returns-in-Err-clause-disk : goal.returns-in-Err-clause-disk
returns-in-Err-clause-disk g c =
    let d = g.D.Disk in
    read_on d _ _ _ c.loop.invariant.disk c.in-Err.ensures.disk

pub returns-in-Err-clause-cause : goal.returns-in-Err-clause-cause
returns-in-Err-clause-cause g c = λ is before shown phase.
    let d = g.D.Disk in
    let (now, shows, r, many) = c.loop.invariant.reading before shown phase in
    failed_on d _ _ _ c.loop.invariant.disk (c.in-Err.ensures.cause (ap Err (same_fault c.in-Err.fault Source is)) now shows)

pub loop-preserved : goal.loop-preserved
loop-preserved g c =
    let d = g.D.Disk in
    record {
      reading = λ before shown phase.
          let (now, shows, r, many) = c.loop.invariant.reading before shown phase in
          let s = c.in-Ok-More.ensures.step now shows in
          let has = c.calls_move_their_session.ensures.receive now s.0 c.args.id r.received _ More r.phase (taken now s.0 c.args.id _ _ More c.in-Ok-More.field-0-is s.2) in
          let only = only_serves c.other_sessions_stay.ensures c.calls_move_their_session.ensures.file c.sessions_are_numbered.ensures.kept now s.0 (Receive c.args.id _ (Ok c.in-Ok-More.field-0)) c.args.id s.2 refl in
          let count = length-take-le c.in-Some.count c.read.new.buffer c.in-Some.ensures.within in
          let l = longer _ c.args.id _ _ _ before now s.0 _ r c.in-Some.ensures.bytes only has many (omega (arith, count)) in
          (s.0, s.1, l.0, l.1);
      disk = read_on d _ _ _ c.loop.invariant.disk c.in-Ok-More.ensures.disk;
      tries = c.in-Some.ensures.same refl ∙ c.loop.invariant.tries;
      lost = c.in-Ok-More.ensures.lost ∙ c.loop.invariant.lost;
    }

-- the head is complete before so many turns
pub returns-clause-tried : goal.returns-clause-tried
returns-clause-tried g c = λ before shown phase none.
    let (now, shows, r, many) = c.loop.invariant.reading before shown phase in
    absurd (never_so_long c.loop.counter r.received r.no_head many (omega (arith, c.loop-test.false, c.loop.auto.counter-end)))
