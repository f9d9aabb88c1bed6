use Rattle.std.proofs.Common.{arith}
use Rattle.disk_model.specs.Clock.{time_adds_up}
use Rattle.disk_model.specs.Torn.{image_within, within_both}
use Rattle.disk_model.proofs.Parts.{rest_long, part_more, within_range}
use Rattle.disk_model.proofs.raw.write_all.Goals as goal

pub loop-done-preserved : goal.loop-done-preserved
loop-done-preserved g c =
    let f = g.F.RawFile in
    let inv = c.loop-done.invariant in
    let bytes = c.args.bytes.now in
    let done = c.loop-done.done in
    let long = rest_long bytes done in
    let w = c.write_some.ensures in
    record {
      within = omega (arith, inv.within, long, c.in-Ok.ensures.count);
      honest = ((λ h. w.honest.0 (inv.honest.0 h)), (λ h. inv.honest.1 (w.honest.1 h)));
      written = λ h. part_more _ _ _ bytes c.args.at done c.in-Ok.count (c.requires.at h) inv.within (inv.written h) (c.in-Ok.ensures.written (inv.honest.0 h));
      images = λ h. within_both _ _ _ (w.images (inv.honest.0 h)) (within_range _ _ _ _ _ _ (inv.images h) (omega arith) (omega (arith, long, inv.within)));
      time = λ h. time_adds_up f.moment f.images_since _ _ _ _ _ _ (inv.time h) (w.time (inv.honest.0 h)) (λ image is. is)
          (λ image is. image_within _ _ image (within_range _ _ _ _ _ _ (inv.images h) (omega arith) (omega (arith, long, inv.within))) is);
    }

pub returns-in-Ok-eq0-clause-images : goal.returns-in-Ok-eq0-clause-images
returns-in-Ok-eq0-clause-images g c = λ h.
    let inv = c.loop-done.invariant in
    let long = rest_long c.args.bytes.now c.loop-done.done in
    within_both _ _ _ (c.write_some.ensures.images (inv.honest.0 h)) (within_range _ _ _ _ _ _ (inv.images h) (omega arith) (omega (arith, long, inv.within)))

pub returns-in-Ok-eq0-clause-time : goal.returns-in-Ok-eq0-clause-time
returns-in-Ok-eq0-clause-time g c = λ h.
    let f = g.F.RawFile in
    let inv = c.loop-done.invariant in
    let long = rest_long c.args.bytes.now c.loop-done.done in
    time_adds_up f.moment f.images_since _ _ _ _ _ _ (inv.time h) (c.write_some.ensures.time (inv.honest.0 h)) (λ image is. is)
    (λ image is. image_within _ _ image (within_range _ _ _ _ _ _ (inv.images h) (omega arith) (omega (arith, long, inv.within))) is)

pub returns-in-Ok-eq0-2-clause-images : goal.returns-in-Ok-eq0-2-clause-images
returns-in-Ok-eq0-2-clause-images g c = λ h.
    let inv = c.loop-done.invariant in
    let long = rest_long c.args.bytes.now c.loop-done.done in
    within_both _ _ _ (c.write_some.ensures.images (inv.honest.0 h)) (within_range _ _ _ _ _ _ (inv.images h) (omega arith) (omega (arith, long, inv.within)))

pub returns-in-Ok-eq0-2-clause-time : goal.returns-in-Ok-eq0-2-clause-time
returns-in-Ok-eq0-2-clause-time g c = λ h.
    let f = g.F.RawFile in
    let inv = c.loop-done.invariant in
    let long = rest_long c.args.bytes.now c.loop-done.done in
    time_adds_up f.moment f.images_since _ _ _ _ _ _ (inv.time h) (c.write_some.ensures.time (inv.honest.0 h)) (λ image is. is)
    (λ image is. image_within _ _ image (within_range _ _ _ _ _ _ (inv.images h) (omega arith) (omega (arith, long, inv.within))) is)
