use Rattle.std.proofs.Common.{length, take}
use Rattle.std.specs.List.{flat_map}
use Rattle.feed_records.specs.Record.{field_bytes}
use Rattle.feed_records.specs.Writing.{Grows}
use Rattle.feed_records.proofs.writing.put_each_field.Given as goal

-- the fields so far are written
abbrev pub invariant-loop-field : goal.invariant-loop-field
invariant-loop-field l =
    Grows l.initial.out l.out (flat_map field_bytes (take l.field-index l.fields)) (length (flat_map field_bytes (take l.field-index l.fields)))
