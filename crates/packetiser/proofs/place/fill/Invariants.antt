use Rattle.std.proofs.Common.{◌≡◌, ◌≤◌, ◌*◌, length, map, take, sum}
use Rattle.packetiser.proofs.Filling.{IsFilled}
use Rattle.packetiser.proofs.place.fill.Given as goal

-- the values so far are filled in
abbrev pub invariant-loop-count : goal.invariant-loop-count
invariant-loop-count g l = record {
  filled : IsFilled (map g.T.TimedPacket.timed l.fn.from) l.fn.begun (take l.count l.lacing) l.position (map g.T.TimedPacket.timed l.rest) l.done;
  room : length l.lacing ≡ 255;
  size_is : l.size ≡ sum (take l.count l.lacing);
  few : l.size ≤ 255 * l.count;
}
