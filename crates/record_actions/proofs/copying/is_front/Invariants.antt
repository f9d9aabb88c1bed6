use Rattle.std.proofs.Common.{◌≡◌, ◌-◌, ◌≤◌, take, drop}
use Rattle.record_actions.specs.Tail.{OnlyRead}
use Rattle.record_actions.proofs.copying.is_front.Given as goal

abbrev pub invariant-loop-done : goal.invariant-loop-done
invariant-loop-done g l =
    let d = g.D.Disk in
    let c = g.C.Disk in
    record {
      within : l.done ≤ l.size;
      read : OnlyRead d l.fn.disk l.disk;
      copy : OnlyRead c l.fn.copy l.copy;
      front : d.is_honest l.fn.disk → c.is_honest l.fn.copy
          → take l.done (c.state l.fn.copy).contents ≡ take l.done (drop l.tail.offset (d.state l.fn.disk).contents);
    }

abbrev pub decreases-loop-done : goal.decreases-loop-done
decreases-loop-done g l = l.size - l.done
