use Rattle.std.proofs.Common.{◌≡◌, ◌++◌, List, ℕ, length, map}
use Rattle.line_packets.specs.Choosing.{LinkState, WritesAll, coming}
use Rattle.line_packets.proofs.choosing.Choosing.take_all.Given as goal

abbrev pub invariant-loop-command : goal.invariant-loop-command
invariant-loop-command l = (l.self.wanted ≡ l.fn.self.wanted) × (before : List ℕ) × (l.lines.items ≡ l.fn.lines.items ++ before)
    × ((after : LinkState) (text : List ℕ) → WritesAll l.fn.self.wanted l.self.link (map (coming l.when) l.rest) after text
    → WritesAll l.fn.self.wanted l.fn.self.link (map (coming l.when) l.commands) after (before ++ text))

abbrev pub decreases-loop-command : goal.decreases-loop-command
decreases-loop-command l = length l.rest
