use Rattle.std.proofs.Common.{ℕ, ◌≤◌, ◌+◌, ◌-◌, List, length}
use Rattle.ogg_page.specs.Page.{Page, bytes_of_pages}
use Rattle.ogg_page.specs.Window.{KeepsSource}
use Rattle.archive_cut.specs.Heads.{AreWalked, IsSought, StandUpTo, streams_after, up_to_first}
use Rattle.archive_cut.proofs.heads.take_link.Given as goal

abbrev pub invariant-pages : goal.invariant-pages
invariant-pages g l =
    let s = g.S.PageSource in
    record {
      source : KeepsSource s.bytes s.is_honest s.size s.only_reads l.fn.source l.source;
      later : s.failures l.fn.source ≤ s.failures l.source;
      left : (pages : List Page) → s.is_honest l.fn.source → StandUpTo (s.bytes l.fn.source) l.fn.start l.end pages
          → IsSought (s.bytes l.fn.source) (l.fn.start + length (bytes_of_pages (up_to_first pages))) l.end l.place;
      own : (own : List Page) (stop : ℕ) → s.is_honest l.fn.source → StandUpTo (s.bytes l.fn.source) l.fn.start stop own → l.place ≤ stop
          → AreWalked (s.bytes l.fn.source) (streams_after l.fn.streams.items own) stop l.place l.streams.items;
    }

abbrev pub decreases-pages : goal.decreases-pages
decreases-pages g l = l.end - l.place
