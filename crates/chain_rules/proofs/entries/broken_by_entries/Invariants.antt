use Rattle.std.proofs.Common.{◌≡◌, drop}
use Rattle.link_chain.specs.Rules.{first_broken}
use Rattle.chain_rules.specs.Decision.{entries_rules}
use Rattle.link_chain.specs.Places.{HaveOwnSerials}
use Rattle.chain_rules.proofs.entries.broken_by_entries.Given as goal

-- the entries so far broke no rule, and the streams have been moved by them
abbrev pub invariant-loop-entry : goal.invariant-loop-entry
invariant-loop-entry l =
    (first_broken (entries_rules l.initial.streams l.entries) ≡ first_broken (entries_rules l.streams (drop l.entry-index l.entries)))
    × HaveOwnSerials l.streams
