use Rattle.std.proofs.Common.{refl, arith}
use Rattle.serve_hub.proofs.Sessions.{connects, full}
use Rattle.serve_hub.proofs.hub.Hub.connect.Goals as goal

pub returns-then-len-self-clause-step : goal.returns-then-len-self-clause-step
returns-then-len-self-clause-step g c =
    let d = g.D.Disk in
    let in_ = c.self.inside in
    rw (← c.self.view_is)
    (λ before s. (before, s, (full before in_.sessions.items in_.most_sessions s.room_is s.sessions_are (omega (arith, c.if-len-self.true, c.len.ensures, in_.sessions.ok.0)), refl)))

pub returns-clause-step : goal.returns-clause-step
returns-clause-step g c =
    let d = g.D.Disk in
    let in_ = c.self.inside in
    rw (← c.self.view_is)
    (λ before s.
    connects d in_.file in_.lost in_.index in_.sessions.items in_.next in_.most in_.most_sessions before s c.in-Some.id c.add_session.new.sessions.items c.next_after-self-inside.result c.in-Some.is c.next_after-self-inside.ensures.fits
    c.next_after-self-inside.ensures.next
    (omega (arith, c.if-len-self.false, c.len.ensures, in_.sessions.ok.0)) c.add_session.ensures.items)
