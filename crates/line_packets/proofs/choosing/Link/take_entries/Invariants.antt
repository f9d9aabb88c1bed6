use Rattle.std.proofs.Common.{◌≡◌, ◌++◌, List, ℕ, length}
use Rattle.line_packets.specs.Choosing.{LinkState, WritesEntries}
use Rattle.line_packets.proofs.choosing.Link.take_entries.Given as goal

abbrev pub invariant-loop-entry : goal.invariant-loop-entry
invariant-loop-entry l = (before : List ℕ) × (l.lines.items ≡ l.fn.lines.items ++ before)
    × ((after : LinkState) (text : List ℕ) → WritesEntries l.wanted l.when l.self l.rest after text
    → WritesEntries l.wanted l.when l.fn.self l.entries after (before ++ text))

abbrev pub decreases-loop-entry : goal.decreases-loop-entry
decreases-loop-entry l = length l.rest
