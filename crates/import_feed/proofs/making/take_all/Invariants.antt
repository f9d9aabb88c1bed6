use Rattle.std.proofs.Common.{◌≤◌, Option, List, ℕ}
use Rattle.std.specs.Io.KnownBytes.{Appends}
use Rattle.feed_records.specs.Record.{announcement}
use Rattle.import_feed.specs.Turn.{GoesOn, IsStarted, StillMakes}
use Rattle.import_feed.proofs.making.take_all.Given as goal
use Rattle.import_changes.specs.declared.options.ChangeOptions.{ChangeOptions}

-- each turn took a page
abbrev pub invariant-loop : goal.invariant-loop
invariant-loop g l =
    GoesOn l.maker × (l.counter ≤ l.maker.pages.offset)
    × ((options : ChangeOptions) (before : Option (List ℕ)) → IsStarted options l.initial.maker → Appends before (g.W.Write.contents l.initial.writer) announcement →
    StillMakes options (g.R.Read.remaining l.initial.reader) (g.R.Read.remaining l.reader) before (g.W.Write.contents l.writer) l.maker)
