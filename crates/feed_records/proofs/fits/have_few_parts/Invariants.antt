use Rattle.std.proofs.Common.{take}
use Rattle.std.specs.List.{AllByRecursion}
use Rattle.feed_records.specs.Fits.{HasFewParts}
use Rattle.feed_records.proofs.fits.have_few_parts.Given as goal

-- each stream so far has passed
abbrev pub invariant-loop-stream : goal.invariant-loop-stream
invariant-loop-stream l = AllByRecursion HasFewParts (take l.stream-index l.streams)
