use Rattle.std.proofs.Common.{◌≡◌, ◌≤◌, map, take}
use Rattle.arrayvec.specs.ArrayVec.{array_vec_len}
use Rattle.ogg_finish.specs.Ends.{without_pages}
use Rattle.ogg_finish.proofs.finishing.ends_of.Given as goal

-- the streams so far are there
abbrev pub invariant-loop-stream : goal.invariant-loop-stream
invariant-loop-stream l = (l.ends.items ≡ map without_pages (take l.stream-index l.streams)) × (array_vec_len l.ends ≤ l.stream-index)
