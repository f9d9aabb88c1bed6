use Rattle.std.proofs.Common.{◌≤◌, take}
use Rattle.std.specs.Io.KnownBytes.{Consumes}
use Rattle.feed_codec.proofs.reading.fill.Given as goal

-- the first `done` bytes are read, and each turn read one or more
abbrev pub invariant-loop : goal.invariant-loop
invariant-loop g l =
    (l.done ≤ l.wanted)
    × (l.counter ≤ l.done)
    × Consumes (g.R.Read.remaining l.initial.reader) (g.R.Read.remaining l.reader) (take l.done l.buffer)
