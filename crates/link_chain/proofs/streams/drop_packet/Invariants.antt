use Rattle.std.proofs.Common.{◌≡◌, ◌++◌, map, take, drop}
use Rattle.link_chain.specs.Progress.{change_at, left_whole}
use Rattle.link_chain.proofs.streams.drop_packet.Given as goal

-- the streams so far are changed
abbrev pub invariant-loop-stream : goal.invariant-loop-stream
invariant-loop-stream l = l.streams ≡ map (change_at l.serial left_whole) (take l.stream-index l.initial.streams) ++ drop l.stream-index l.initial.streams
