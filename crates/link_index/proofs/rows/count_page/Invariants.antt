use Rattle.std.proofs.Common.{◌≡◌, ◌++◌, map, take, drop}
use Rattle.link_index.specs.Growth.{counted}
use Rattle.link_index.proofs.rows.count_page.Given as goal

-- the streams so far are counted
abbrev pub invariant-loop-stream : goal.invariant-loop-stream
invariant-loop-stream l = l.streams ≡ map (counted l.page) (take l.stream-index l.initial.streams) ++ drop l.stream-index l.initial.streams
