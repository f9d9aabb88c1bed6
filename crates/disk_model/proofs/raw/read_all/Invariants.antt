use Rattle.std.proofs.Common.{◌≡◌, ◌↔◌, ◌-◌, ◌≤◌, length, take, drop}
use Rattle.disk_model.specs.Clock.{Elapses}
use Rattle.disk_model.proofs.raw.read_all.Given as goal

abbrev pub invariant-loop-done : goal.invariant-loop-done
invariant-loop-done g l =
    let f = g.F.RawFile in
    let old = l.fn.file in
    record {
      within : l.done ≤ length l.buffer;
      long : length l.buffer ≡ length l.fn.buffer;
      honest : f.is_honest old ↔ f.is_honest l.file;
      read : f.is_honest old → take l.done l.buffer ≡ take l.done (drop l.at (f.state old).contents);
      same : f.is_honest old → f.state l.file ≡ f.state old;
      time : f.is_honest old → Elapses f.moment f.images_since old l.file (f.state old);
    }

abbrev pub decreases-loop-done : goal.decreases-loop-done
decreases-loop-done g l = length l.buffer - l.done
