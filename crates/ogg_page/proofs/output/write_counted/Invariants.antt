use Rattle.std.proofs.Common.{◌≤◌, length, take}
use Rattle.std.specs.Io.KnownBytes.{Appends}
use Rattle.ogg_page.proofs.output.write_counted.Given as goal

-- the first `done` bytes are written, and each turn wrote one or more
abbrev pub invariant-loop : goal.invariant-loop
invariant-loop g l =
    (l.done ≤ length l.text)
    × (l.counter ≤ l.done)
    × Appends (g.W.Write.contents l.initial.writer) (g.W.Write.contents l.writer) (take l.done l.text)
