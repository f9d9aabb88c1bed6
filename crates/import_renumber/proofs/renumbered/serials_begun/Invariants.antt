use Rattle.std.proofs.Common.{◌≡◌, ◌++◌, take}
use Rattle.import_changes.specs.Naming.{serials_of}
use Rattle.import_renumber.specs.Renumbering.{head_serials}
use Rattle.import_renumber.proofs.renumbered.serials_begun.Given as goal

-- the serials so far are added
abbrev pub invariant-loop-stream : goal.invariant-loop-stream
invariant-loop-stream l = l.serials.items ≡ head_serials l.fn.begin.skeleton ++ serials_of (take l.stream-index l.fn.begin.streams)
