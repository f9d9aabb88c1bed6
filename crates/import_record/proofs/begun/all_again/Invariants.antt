use Rattle.std.proofs.Common.{◌≡◌, map, take}
use Rattle.std.specs.List.{filter}
use Rattle.import_record.specs.Begun.{bare, comes_again, stream_of}
use Rattle.import_record.proofs.begun.all_again.Given as goal

-- those of the streams so far that begin again are copied
abbrev pub invariant-loop-begun : goal.invariant-loop-begun
invariant-loop-begun l = l.again.items ≡ map bare (map stream_of (filter comes_again (take l.begun-index l.streams)))
