use Rattle.std.proofs.Common.{◌≡◌}
use Rattle.std.specs.List.{filter}
use Rattle.import_changes.specs.Skeletons.{headers_in, is_other, is_skeleton}
use Rattle.import_changes.proofs.skeletons.parted.Given as goal

-- the streams so far are parted
abbrev pub invariant-loop-stream : goal.invariant-loop-stream
invariant-loop-stream l = record {
  others : l.others.items ≡ filter is_other l.yielded;
  said : l.said.items ≡ headers_in (filter is_skeleton l.yielded);
}
