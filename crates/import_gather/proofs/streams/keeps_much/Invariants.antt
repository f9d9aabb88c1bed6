use Rattle.std.proofs.Common.{◌≡◌, ◌+◌, take}
use Rattle.import_gather.specs.Kept.{kept_bytes}
use Rattle.import_gather.specs.Limits.{most_kept}
use Rattle.import_gather.proofs.streams.keeps_much.Given as goal

-- the headers of the streams so far were taken off
abbrev pub invariant-loop-stream : goal.invariant-loop-stream
invariant-loop-stream l = l.left + kept_bytes (take l.stream-index l.streams) ≡ most_kept
