use Rattle.std.proofs.Common.{◌≡◌, ◌++◌, List, ℕ, length}
use Rattle.line_packets.specs.Choosing.{WritesHeaders}
use Rattle.line_packets.proofs.choosing.Link.write_headers.Given as goal

abbrev pub invariant-loop-stream : goal.invariant-loop-stream
invariant-loop-stream l = (before : List ℕ) × (l.lines.items ≡ l.fn.lines.items ++ before)
    × ((text : List ℕ) → WritesHeaders l.wanted l.when l.self l.rest text → WritesHeaders l.wanted l.when l.self l.streams (before ++ text))

abbrev pub decreases-loop-stream : goal.decreases-loop-stream
decreases-loop-stream l = length l.rest
