use Rattle.std.proofs.Common.{◌≡◌, ◌≤◌, ◌+◌, ◌*◌, sum_by, take}
use Rattle.packetiser.specs.Laws.Sizes.{values_in, bytes_in}
use Rattle.packetiser.proofs.size.values_and_bytes.Given as goal

-- the packets so far are counted, and each has one value in addition to those of its whole segments
abbrev pub invariant-loop-item : goal.invariant-loop-item
invariant-loop-item g l = record {
  values : l.values ≡ sum_by (λ x. values_in (g.T.TimedPacket.timed x)) (take l.item-index l.run);
  bytes : l.bytes ≡ sum_by (λ x. bytes_in (g.T.TimedPacket.timed x)) (take l.item-index l.run);
  few : 255 * l.values ≤ l.bytes + 255 * l.item-index;
}
