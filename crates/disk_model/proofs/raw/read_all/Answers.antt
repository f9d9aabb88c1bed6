use Rattle.std.proofs.Common.{◌+◌, ◌-◌, length, take, drop, ◌∙◌, subst, arith}
use borrow.Rule.Slice.PartMut.{same_len_mid}
use Rattle.disk_model.specs.Image.{DiskState, IsImage}
use Rattle.disk_model.specs.Clock.{time_adds_up}
use Rattle.disk_model.proofs.Parts.{rest_long, filled}
use Rattle.disk_model.proofs.raw.read_all.Goals as goal

pub loop-done-preserved : goal.loop-done-preserved
loop-done-preserved g c =
    let f = g.F.RawFile in
    let inv = c.loop-done.invariant in
    let buffer = c.loop-done.buffer in
    let done = c.loop-done.done in
    let part = c.read_some.new.buffer in
    let r = c.read_some.ensures in
    let long = rest_long buffer done in
    let same_long = same_len_mid done (length buffer - done) buffer part c.read_some.auto.buffer in
    record {
      within = omega (arith, inv.within, long, c.in-Ok.ensures.count, same_long);
      long = same_long ∙ inv.long;
      honest = ((λ h. r.honest.0 (inv.honest.0 h)), (λ h. inv.honest.1 (r.honest.1 h)));
      read = λ h. filled buffer part _ (f.state c.args.file.now).contents done c.in-Ok.count c.args.at inv.within (omega (arith, long, c.in-Ok.ensures.count, c.read_some.auto.buffer)) (inv.read h)
          (c.in-Ok.ensures.read (inv.honest.0 h) ∙ (λ i. take c.in-Ok.count (drop (c.args.at + done) (inv.same h i).contents)));
      same = λ h. r.same (inv.honest.0 h) ∙ inv.same h;
      time = λ h. time_adds_up f.moment f.images_since _ _ _ _ _ _ (inv.time h) (r.time (inv.honest.0 h)) (λ image is. is)
          (λ image is. subst (λ (s : DiskState). IsImage s image) (inv.same h) is);
    }
