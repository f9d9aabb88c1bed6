use Rattle.std.proofs.Common.{◌≡◌, map, take}
use Rattle.import_renumber.specs.Renumbering.{entry_given}
use Rattle.import_renumber.proofs.copying.entries_given.Given as goal

-- the packets so far are copied
abbrev pub invariant-loop-entry : goal.invariant-loop-entry
invariant-loop-entry l = l.now.items ≡ map (entry_given l.names l.spare) (take l.entry-index l.entries)
