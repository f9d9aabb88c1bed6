use Rattle.std.proofs.Common.{◌≡◌, take}
use Rattle.import_record.proofs.begun.copied.Given as goal

-- the packets so far are copied
abbrev pub invariant-loop-packet : goal.invariant-loop-packet
invariant-loop-packet l = l.copy.items ≡ take l.packet-index l.packets
