use Rattle.std.proofs.Common.{Ok, refl, sym, ap, subst}
use Rattle.serve_hub.specs.Images.{IfFile, Reads}
use Rattle.serve_machine.specs.Hub.{Connect, Close}
use Rattle.ogg_serve.proofs.Moves.{only_serves, both}
use Rattle.ogg_serve.proofs.OnlyRead.{unread, read_inside, failed_inside}
use Rattle.ogg_serve.proofs.Whole.{connected, all_of}
use Rattle.ogg_serve.proofs.serve.serve_one.Goals as goal

pub returns-in-Ok-clause-served : goal.returns-in-Ok-clause-served
returns-in-Ok-clause-served g c = λ before shown room numbered.
    let s = c.in-Ok.ensures.step before shown in
    let same = s.2.1 in
    let begun = c.calls_move_their_session.ensures.connect before s.0 c.in-Ok.id s.2 (connected before c.in-Ok.id same (c.sessions_are_numbered.ensures.unused before numbered)) in
    let x = c.exchange-served.ensures.served s.0 s.1 begun in
    let e = c.close.ensures.step x.0 x.1 in
    let own = only_serves c.other_sessions_stay.ensures c.calls_move_their_session.ensures.file c.sessions_are_numbered.ensures.kept in
    let only = both c.in-Ok.id before s.0 e.0 (own before s.0 (Connect (Ok c.in-Ok.id)) c.in-Ok.id s.2 refl)
    (both c.in-Ok.id s.0 x.0 e.0 x.2 (own x.0 e.0 (Close c.in-Ok.id _) c.in-Ok.id e.2 refl)) in
    all_of _ _ _ _ _ _ before s.0 e.0 c.in-Ok.id same (e.1) only (c.calls_move_their_session.ensures.close x.0 e.0 c.in-Ok.id _ e.2)
    (own before s.0 (Connect (Ok c.in-Ok.id)) c.in-Ok.id s.2 refl) x.3

pub returns-in-Ok-clause-disk : goal.returns-in-Ok-clause-disk
returns-in-Ok-clause-disk g c =
    let d = g.D.Disk in
    read_inside d _ _ _ _ (ap (λ h. h.file) c.in-Ok.ensures.parts) c.exchange-served.ensures.disk
    (ap (λ h. h.file) c.close.ensures.parts)

pub returns-in-Ok-clause-cause : goal.returns-in-Ok-clause-cause
returns-in-Ok-clause-cause g c is before shown numbered =
    let d = g.D.Disk in
    let s = c.in-Ok.ensures.step before shown in
    let same = s.2.1 in
    let begun = c.calls_move_their_session.ensures.connect before s.0 c.in-Ok.id s.2 (connected before c.in-Ok.id same (c.sessions_are_numbered.ensures.unused before numbered)) in
    failed_inside d _ _ _ _ (ap (λ h. h.file) c.in-Ok.ensures.parts)
    (c.exchange-served.ensures.cause is s.0 s.1 begun)
    (ap (λ h. h.file) c.close.ensures.parts)

pub returns-in-Err-clause-disk : goal.returns-in-Err-clause-disk
returns-in-Err-clause-disk g c =
    let d = g.D.Disk in
    subst (λ h. IfFile (Reads d) c.args.hub.now.file h.file) (sym c.in-Err.ensures.refused.1)
    (unread d c.args.hub.now.file (λ disk h image since. (g.met.D.Disk.laws disk h).only_now image since))
