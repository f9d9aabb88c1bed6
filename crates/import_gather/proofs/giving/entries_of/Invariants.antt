use Rattle.std.proofs.Common.{◌≡◌, map}
use Rattle.import_commands.specs.Commands.{entry_of}
use Rattle.import_gather.proofs.giving.entries_of.Given as goal

-- the packets so far are entries, and no growth was refused
abbrev pub invariant-loop-packet : goal.invariant-loop-packet
invariant-loop-packet l = record {
  entries : l.entries.items ≡ map (entry_of l.page) l.yielded;
  noted : l.grower ≡ l.fn.grower;
}
