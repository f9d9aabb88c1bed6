use Rattle.std.proofs.Common.{◌≡◌, ◌≤◌, ◌++◌, ℕ, List, length, map, take}
use Rattle.packetiser.specs.Place.{bytes_left, IsWithin}
use Rattle.packetiser.proofs.paging.put_bytes.Given as goal

-- what is put and what is still to come make the whole
abbrev pub invariant-loop-left : goal.invariant-loop-left
invariant-loop-left g l = record {
  work : (bytes : List ℕ) × (bytes ++ take l.left (bytes_left l.done (map g.T.TimedPacket.timed l.rest)) ≡ take l.size (bytes_left l.begun (map g.T.TimedPacket.timed l.from)))
      × ((before : _) (head : _) (lacing body : List ℕ) → g.S.PageSpace.in_work before head lacing body l.fn.space → g.S.PageSpace.in_work before head lacing (body ++ bytes) l.space);
  within : IsWithin l.done (map g.T.TimedPacket.timed l.rest);
  enough : l.left ≤ length (bytes_left l.done (map g.T.TimedPacket.timed l.rest));
  room : g.S.PageSpace.free l.space l.left;
}

-- each step leaves one packet fewer
abbrev pub decreases-loop-left : goal.decreases-loop-left
decreases-loop-left g l = length l.rest
