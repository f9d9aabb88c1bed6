use Rattle.std.proofs.Common.{◌≡◌, length, take}
use Rattle.std.specs.List.{flat_map}
use Rattle.feed_records.specs.Record.{entry_bytes}
use Rattle.feed_records.specs.Fits.{capped}
use Rattle.feed_records.proofs.fits.entries_size.Given as goal

-- the entries so far are counted
abbrev pub invariant-loop-entry : goal.invariant-loop-entry
invariant-loop-entry l = l.size ≡ capped (length (flat_map entry_bytes (take l.entry-index l.entries)))
