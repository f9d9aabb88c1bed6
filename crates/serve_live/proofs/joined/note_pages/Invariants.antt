use Rattle.std.proofs.Common.{◌≤◌, ◌-◌}
use Rattle.ogg_page.specs.Window.{KeepsSource}
use Rattle.serve_live.specs.Noting.{AreLeft}
use Rattle.serve_live.proofs.joined.note_pages.Given as goal

abbrev pub invariant-pages : goal.invariant-pages
invariant-pages g l =
    let s = g.S.PageSource in
    record {
      source : KeepsSource s.bytes s.is_honest s.size s.only_reads l.fn.source l.source;
      later : s.failures l.fn.source ≤ s.failures l.source;
      left : s.is_honest l.fn.source → AreLeft (s.bytes l.fn.source) l.part l.fn.start l.fn.streams l.end l.place l.streams;
    }

abbrev pub decreases-pages : goal.decreases-pages
decreases-pages g l = l.end - l.place
