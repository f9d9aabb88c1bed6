use Rattle.std.proofs.Common.{◌-◌, List}
use Rattle.ogg_page.specs.Page.{Page}
use Rattle.ogg_page.specs.Window.{KeepsSource}
use Rattle.archive_cut.specs.Heads.{StandUpTo}
use Rattle.archive_fetch.proofs.EndPages.{IsPassed}
use Rattle.archive_fetch.proofs.meetings.begun_end.Given as goal

abbrev pub invariant-pages : goal.invariant-pages
invariant-pages g l =
    let s = g.S.PageSource in
    record {
      source : KeepsSource s.bytes s.is_honest s.size s.only_reads l.fn.source l.source;
      left : (pages : List Page) → s.is_honest l.fn.source → StandUpTo (s.bytes l.fn.source) 0 l.end pages
          → IsPassed (s.bytes l.fn.source) l.end l.place pages;
    }

abbrev pub decreases-pages : goal.decreases-pages
decreases-pages g l = l.end - l.place
