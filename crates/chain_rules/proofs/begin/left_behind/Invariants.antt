use Rattle.std.proofs.Common.{◌≡◌, ◌+◌, length, sum_by, take}
use Rattle.chain_rules.proofs.begin.left_behind.Given as goal

-- what is left after the packets so far
abbrev pub invariant-loop-packet : goal.invariant-loop-packet
invariant-loop-packet l = l.left + sum_by length (take l.packet-index l.packets) ≡ l.initial.left
