use Rattle.std.proofs.Common.{◌≡◌, ◌+◌, length, sum_by, take}
use Rattle.ogg_command.specs.declared.command.Entry.{Entry}
use Rattle.chain_rules.proofs.checks.is_long_batch.Given as goal

-- what is left of the limit after the entries so far
abbrev pub invariant-loop-entry : goal.invariant-loop-entry
invariant-loop-entry l = l.left + sum_by (λ (entry : Entry). length entry.packet) (take l.entry-index l.entries) ≡ 16777216
