use Rattle.std.proofs.Common.{◌≡◌, ◌++◌, map, take, drop}
use Rattle.link_chain.specs.Progress.{change_at}
use Rattle.archive_cut.specs.Heads.{followed_by}
use Rattle.archive_cut.proofs.heads.go_on.Given as goal

-- the streams so far are changed
abbrev pub invariant-loop-stream : goal.invariant-loop-stream
invariant-loop-stream l = l.streams ≡ map (change_at l.said.serial (followed_by l.said)) (take l.stream-index l.initial.streams) ++ drop l.stream-index l.initial.streams
