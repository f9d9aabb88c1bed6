use Rattle.std.proofs.Common.{◌≡◌, ◌↔◌, ◌-◌, ◌≤◌, length, take}
use Rattle.disk_model.specs.Image.{IsWithin, overwritten, after_write}
use Rattle.disk_model.specs.Clock.{Elapses}
use Rattle.disk_model.proofs.raw.write_all.Given as goal

abbrev pub invariant-loop-done : goal.invariant-loop-done
invariant-loop-done g l =
    let f = g.F.RawFile in
    let old = l.fn.file in
    let bound = after_write l.at (length l.bytes) (f.state old) in
    record {
      within : l.done ≤ length l.bytes;
      honest : f.is_honest old ↔ f.is_honest l.file;
      written : f.is_honest old → (f.state l.file).contents ≡ overwritten (f.state old).contents l.at (take l.done l.bytes);
      images : f.is_honest old → IsWithin (f.state l.file) bound;
      time : f.is_honest old → Elapses f.moment f.images_since old l.file bound;
    }

abbrev pub decreases-loop-done : goal.decreases-loop-done
decreases-loop-done g l = length l.bytes - l.done
