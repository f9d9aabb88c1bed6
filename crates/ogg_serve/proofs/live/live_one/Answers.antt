use Rattle.std.proofs.Common.{ℕ, Ok, refl, sym, ap, subst}
use Rattle.serve_hub.specs.Images.{failures_in}
use Rattle.serve_hub.specs.Parts.{HubParts}
use Rattle.serve_sending.specs.Sending.{HasFailed}
use Rattle.serve_machine.specs.Hub.{Connect, Close}
use Rattle.ogg_serve.proofs.Continuing.{same, stays, then_on}
use Rattle.ogg_serve.proofs.Moves.{only_serves, others_both}
use Rattle.ogg_serve.proofs.Taken.{led, followed}
use Rattle.ogg_serve.proofs.Whole.{connected, others_of}
use Rattle.ogg_serve.proofs.live.live_one.Goals as goal

pub returns-in-Ok-clause-served : goal.returns-in-Ok-clause-served
returns-in-Ok-clause-served g c = λ before shown room numbered.
    let s = c.in-Ok.ensures.step before shown in
    let same = s.2.1 in
    let begun = c.calls_move_their_session.ensures.connect before s.0 c.in-Ok.id s.2 (connected before c.in-Ok.id same (c.sessions_are_numbered.ensures.unused before numbered)) in
    let x = c.exchange-served.ensures.served s.0 s.1 begun in
    let e = c.close.ensures.step x.0 x.1 in
    let own = only_serves c.other_sessions_stay.ensures c.calls_move_their_session.ensures.file c.sessions_are_numbered.ensures.kept in
    let first = own before s.0 (Connect (Ok c.in-Ok.id)) c.in-Ok.id s.2 refl in
    let last = own x.0 e.0 (Close c.in-Ok.id _) c.in-Ok.id e.2 refl in
    let d = g.D.Disk in
    let steps = followed d g.F.Read.remaining g.L.Write.contents x.3.0 _ _ before x.0 e.0
    (led d g.F.Read.remaining g.L.Write.contents x.3.0 _ _ before s.0 x.0 first.file x.3.1) last.file in
    others_of _ _ _ _ _ _ _ before s.0 x.0 e.0 c.in-Ok.id x.3.0 same e.1
    (others_both c.in-Ok.id before s.0 e.0 first.others (others_both c.in-Ok.id s.0 x.0 e.0 x.2 last.others))
    (c.calls_move_their_session.ensures.close x.0 e.0 c.in-Ok.id _ e.2) first last steps x.3.2

pub returns-in-Ok-clause-cause : goal.returns-in-Ok-clause-cause
returns-in-Ok-clause-cause g c is before shown numbered =
    let d = g.D.Disk in
    let s = c.in-Ok.ensures.step before shown in
    let same = s.2.1 in
    let begun = c.calls_move_their_session.ensures.connect before s.0 c.in-Ok.id s.2 (connected before c.in-Ok.id same (c.sessions_are_numbered.ensures.unused before numbered)) in
    let failed = c.exchange-served.ensures.cause is s.0 s.1 begun in
    let led = ap (failures_in d.failures) c.in-Ok.ensures.parts in
    let left = ap (failures_in d.failures) c.close.ensures.parts in
    subst (λ (n : ℕ). HasFailed n (failures_in d.failures c.close.new.self)) led (subst (λ (n : ℕ). HasFailed (failures_in d.failures c.connect.new.self) n) (sym left) failed)

pub returns-in-Ok-clause-history : goal.returns-in-Ok-clause-history
returns-in-Ok-clause-history g c = λ before shown numbered.
    let d = g.D.Disk in
    let s = c.in-Ok.ensures.step before shown in
    let begun = c.calls_move_their_session.ensures.connect before s.0 c.in-Ok.id s.2 (connected before c.in-Ok.id s.2.1 (c.sessions_are_numbered.ensures.unused before numbered)) in
    let come = stays d c.args.hub.now c.connect.new.self
    (ap (λ (hub : HubParts _). hub.file) c.in-Ok.ensures.parts) (ap (λ (hub : HubParts _). hub.lost) c.in-Ok.ensures.parts) in
    let gone = stays d c.exchange-served.new.hub c.close.new.self
    (ap (λ (hub : HubParts _). hub.file) c.close.ensures.parts) (ap (λ (hub : HubParts _). hub.lost) c.close.ensures.parts) in
    then_on d c.args.hub.now c.connect.new.self c.close.new.self come
    (then_on d c.connect.new.self c.exchange-served.new.hub c.close.new.self (c.exchange-served.ensures.history s.0 s.1 begun) gone)

pub returns-in-Err-clause-history : goal.returns-in-Err-clause-history
returns-in-Err-clause-history g c = λ before shown numbered.
    let d = g.D.Disk in
    same d c.args.hub.now c.connect.new.self c.in-Err.ensures.refused.1
