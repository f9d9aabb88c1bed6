use Rattle.std.proofs.Common.{◌≡◌, length, take}
use Rattle.std.specs.List.{flat_map}
use Rattle.feed_records.specs.Record.{field_bytes}
use Rattle.feed_records.specs.Fits.{capped}
use Rattle.feed_records.proofs.fits.fields_size.Given as goal

-- the fields so far are counted
abbrev pub invariant-loop-field : goal.invariant-loop-field
invariant-loop-field l = l.size ≡ capped (length (flat_map field_bytes (take l.field-index l.fields)))
