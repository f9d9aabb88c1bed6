use Rattle.std.proofs.Common.{◌≡◌, ◌++◌, map, take, drop}
use Rattle.link_chain.specs.Progress.{change_at}
use Rattle.link_chain.specs.Followed.{followed}
use Rattle.link_chain.proofs.taking.follow.Given as goal

-- the streams so far are changed
abbrev pub invariant-loop-stream : goal.invariant-loop-stream
invariant-loop-stream l = l.streams ≡ map (change_at l.page.serial (followed l.page)) (take l.stream-index l.initial.streams) ++ drop l.stream-index l.initial.streams
