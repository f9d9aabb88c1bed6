use Rattle.std.proofs.Common.{◌≡◌, Bool, true, Some, refl, sym, ◌∙◌, subst}
use Rattle.serve_hub.specs.Images.{disk_in}
use Rattle.serve_hub.specs.Parts.{HubParts}
use Rattle.ogg_serve.specs.declared.feeding.Step.TheVariants.{Done, Lost}
use Rattle.ogg_serve.specs.Feeding.{FollowsIf, says_failed}
use Rattle.ogg_serve.proofs.feeding.follow.Goals as goal

pub returns-in-Ok : goal.returns-in-Ok
returns-in-Ok g c = λ before is_in.
    let d = g.D.Disk in
    let e = c.in-Ok.ensures in
    let s = e.step before.machine is_in.1 in
    let failed : says_failed c.args.reply ≡ true = sym c.says_failed.ensures ∙ c.if-says_failed.true in (
      record { now = c.reopen.new.self; machine = s.0 },
      (refl, s.1),
      subst (λ (failed : Bool). FollowsIf d failed c.args.reply (Done c.args.reply) before (record { now = c.reopen.new.self; machine = s.0 })) (sym failed)
          (failed, record { step = s.2; disk = λ old new was now. e.disk old new (subst (λ (hub : HubParts _). disk_in hub.file hub.lost ≡ Some old) is_in.0 was) now }),
    )

pub returns-in-Err : goal.returns-in-Err
returns-in-Err g c = λ before is_in.
    let d = g.D.Disk in
    let e = c.in-Err.ensures in
    let s = e.step before.machine is_in.1 in
    let failed : says_failed c.args.reply ≡ true = sym c.says_failed.ensures ∙ c.if-says_failed.true in (
      record { now = c.reopen.new.self; machine = s.0 },
      (refl, s.1),
      subst (λ (failed : Bool). FollowsIf d failed c.args.reply (Lost c.in-Err.fault) before (record { now = c.reopen.new.self; machine = s.0 })) (sym failed)
          (record { step = s.2; disk = λ old new was now. e.disk old new (subst (λ (hub : HubParts _). disk_in hub.file hub.lost ≡ Some old) is_in.0 was) now }),
    )
