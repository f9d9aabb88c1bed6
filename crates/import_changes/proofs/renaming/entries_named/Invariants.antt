use Rattle.std.proofs.Common.{take}
use Rattle.import_changes.specs.Naming.{entries_named}
use Rattle.import_changes.proofs.Moved.{Moved}
use Rattle.import_changes.proofs.renaming.entries_named.Given as goal

-- the packets so far are under the serials that their streams have now
abbrev pub invariant-loop-place : goal.invariant-loop-place
invariant-loop-place l = Moved l.fn.entries.items l.entries.items (entries_named l.names (take l.place l.fn.entries.items)) l.place l.kept
