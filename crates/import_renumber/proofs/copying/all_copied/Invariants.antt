use Rattle.std.proofs.Common.{◌≡◌, take}
use Rattle.import_renumber.proofs.copying.all_copied.Given as goal

-- the packets so far are copied
abbrev pub invariant-loop-packet : goal.invariant-loop-packet
invariant-loop-packet l = l.copies.items ≡ take l.packet-index l.packets
