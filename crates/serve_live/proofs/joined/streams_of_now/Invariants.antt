use Rattle.std.proofs.Common.{◌≡◌, map, take}
use Rattle.serve_live.specs.Joined.{as_of_now}
use Rattle.serve_live.proofs.joined.streams_of_now.Given as goal

abbrev pub invariant-loop-state : goal.invariant-loop-state
invariant-loop-state l = l.streams.items ≡ map as_of_now (take l.state-index l.states)
