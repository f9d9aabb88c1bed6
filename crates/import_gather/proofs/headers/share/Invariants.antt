use Rattle.std.proofs.Common.{◌≡◌, ◌-◌, ◌++◌, length, take, drop}
use Rattle.import_gather.proofs.headers.share.Given as goal

-- the packets so far are shared out, and no growth was refused
abbrev pub invariant-loop-packet : goal.invariant-loop-packet
invariant-loop-packet l = record {
  kept : l.headers.items ≡ l.fn.headers.items ++ take l.room l.yielded;
  later : l.later.items ≡ drop l.room l.yielded;
  left : l.left ≡ l.room - length l.yielded;
  noted : l.grower ≡ l.fn.grower;
}
