use Rattle.std.proofs.Common.{◌≡◌, ◌↔◌, ◌-◌, ◌≤◌, length, take, drop}
use Rattle.record_actions.specs.Tail.{OnlyRead}
use Rattle.record_actions.proofs.copying.append_rest.Given as goal

abbrev pub invariant-loop-done : goal.invariant-loop-done
invariant-loop-done g l =
    let d = g.D.Disk in
    let c = g.C.Disk in
    record {
      within : l.done ≤ l.tail.bytes;
      read : OnlyRead d l.fn.disk l.disk;
      honest : c.is_honest l.fn.copy ↔ c.is_honest l.copy;
      size : c.is_honest l.fn.copy → l.done ≡ length (c.state l.copy).contents;
      front : d.is_honest l.fn.disk → c.is_honest l.fn.copy
          → (c.state l.copy).contents ≡ take l.done (drop l.tail.offset (d.state l.fn.disk).contents);
    }

abbrev pub decreases-loop-done : goal.decreases-loop-done
decreases-loop-done g l = l.tail.bytes - l.done
