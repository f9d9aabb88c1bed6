use Rattle.std.proofs.Common.{length, take}
use Rattle.std.specs.List.{flat_map}
use Rattle.feed_records.specs.Record.{entry_bytes}
use Rattle.feed_records.specs.Writing.{Grows}
use Rattle.feed_records.proofs.writing.put_entries.Given as goal

-- the entries so far are written
abbrev pub invariant-loop-entry : goal.invariant-loop-entry
invariant-loop-entry l =
    Grows l.initial.out l.out (flat_map entry_bytes (take l.entry-index l.entries)) (length (flat_map entry_bytes (take l.entry-index l.entries)))
