use Rattle.std.proofs.Common.{◌≡◌, drop}
use Rattle.std.specs.List.{list_all}
use Rattle.import_changes.specs.Skeletons.{is_skeleton}
use Rattle.import_changes.proofs.skeletons.are_skeletons.Given as goal

-- each of the streams so far is a Skeleton
abbrev pub invariant-loop-stream : goal.invariant-loop-stream
invariant-loop-stream l = list_all is_skeleton (drop l.stream-index l.streams) ≡ list_all is_skeleton l.streams
