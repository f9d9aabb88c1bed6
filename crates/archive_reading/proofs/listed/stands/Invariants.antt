use Rattle.std.proofs.Common.{◌≡◌, drop}
use Rattle.archive_reading.specs.Folder.{stands}
use Rattle.archive_reading.proofs.listed.stands.Given as goal

-- it isn't among the names so far
abbrev pub invariant-loop-entry : goal.invariant-loop-entry
invariant-loop-entry l = stands (drop l.entry-index l.entries) l.kind l.name ≡ stands l.entries l.kind l.name
