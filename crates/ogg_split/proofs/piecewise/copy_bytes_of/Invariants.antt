use Rattle.std.proofs.Common.{◌≤◌, ◌-◌, take, drop}
use Rattle.std.specs.Io.KnownBytes.{Appends}
use Rattle.ogg_page.specs.Window.{KeepsSource}
use Rattle.ogg_split.proofs.piecewise.copy_bytes_of.Given as goal

abbrev pub invariant-pieces : goal.invariant-pieces
invariant-pieces g l =
    let s = g.S.PageSource in
    record {
      inside : l.done ≤ l.fn.count;
      source : KeepsSource s.bytes s.is_honest s.size s.only_reads l.fn.source l.source;
      later : s.failures l.fn.source ≤ s.failures l.source;
      copied : s.is_honest l.fn.source → Appends (g.W.Write.contents l.fn.out) (g.W.Write.contents l.out) (take l.done (drop l.fn.from (s.bytes l.fn.source)));
    }

abbrev pub decreases-pieces : goal.decreases-pieces
decreases-pieces g l = l.count - l.done
