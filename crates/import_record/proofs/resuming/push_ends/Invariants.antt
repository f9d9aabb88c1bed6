use Rattle.std.proofs.Common.{◌≡◌, ◌++◌, take}
use Rattle.std.specs.Prelude.{◌≤◌, vec_capacity}
use Rattle.import_record.specs.Resuming.{ends_of}
use Rattle.import_record.proofs.resuming.push_ends.Given as goal

-- of the streams so far the open ones are ended
abbrev pub invariant-loop-stream : goal.invariant-loop-stream
invariant-loop-stream l = record {
  ends : l.commands.items ≡ l.initial.commands.items ++ ends_of l.ours (take l.stream-index l.streams);
  capacity : vec_capacity l.initial.commands ≤ vec_capacity l.commands;
}
