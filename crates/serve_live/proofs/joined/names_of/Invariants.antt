use Rattle.std.proofs.Common.{◌≡◌, map, take}
use Rattle.serve_live.specs.Joined.{name_between}
use Rattle.serve_live.proofs.joined.names_of.Given as goal

abbrev pub invariant-loop-stream : goal.invariant-loop-stream
invariant-loop-stream l = l.names.items ≡ map name_between (take l.stream-index l.streams)
