use Rattle.std.proofs.Common.{◌≤◌, ◌-◌, List}
use Rattle.ogg_page.specs.Page.{Page}
use Rattle.ogg_page.specs.Window.{KeepsSource}
use Rattle.archive_cut.specs.Heads.{AreWalked, StandUpTo, streams_after}
use Rattle.archive_cut.proofs.heads.take_pages.Given as goal

abbrev pub invariant-pages : goal.invariant-pages
invariant-pages g l =
    let s = g.S.PageSource in
    record {
      source : KeepsSource s.bytes s.is_honest s.size s.only_reads l.fn.source l.source;
      later : s.failures l.fn.source ≤ s.failures l.source;
      left : (pages : List Page) → s.is_honest l.fn.source → StandUpTo (s.bytes l.fn.source) l.fn.start l.end pages
          → AreWalked (s.bytes l.fn.source) (streams_after l.fn.streams.items pages) l.end l.place l.streams.items;
    }

abbrev pub decreases-pages : goal.decreases-pages
decreases-pages g l = l.end - l.place
