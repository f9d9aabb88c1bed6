use Rattle.std.proofs.Common.{take}
use Rattle.std.specs.List.{AllByRecursion}
use Rattle.feed_records.specs.Record.{FitsField}
use Rattle.feed_records.proofs.fits.are_short.Given as goal

-- each field so far has passed
abbrev pub invariant-loop-field : goal.invariant-loop-field
invariant-loop-field l = AllByRecursion FitsField (take l.field-index l.fields)
