use Rattle.std.proofs.Common.{map, arith}
use Rattle.packetiser.proofs.Placing.{at_start}
use Rattle.packetiser.proofs.paging.RunPages.counted.Goals as goal

pub invariant_of-result : goal.invariant_of-result
invariant_of-result g c = record {
  place = at_start (map g.T.TimedPacket.timed c.args.run.now);
  within = omega arith;
  count_is = c.requires.count;
  numbers = c.requires.numbers;
  few = c.requires.flags;
  before = omega arith;
}
