use Rattle.std.proofs.Common.{ℕ, ◌≤◌, ◌-◌, List}
use Rattle.ogg_page.specs.Page.{Page}
use Rattle.ogg_page.specs.Window.{KeepsSource}
use Rattle.archive_cut.specs.Heads.{StandUpTo}
use Rattle.archive_cut.proofs.Continued.{IsPassed}
use Rattle.archive_cut.proofs.continuing.streams_at.Given as goal

abbrev pub invariant-pages : goal.invariant-pages
invariant-pages g l =
    let s = g.S.PageSource in
    record {
      source : KeepsSource s.bytes s.is_honest s.size s.only_reads l.fn.source l.source;
      left : (end : ℕ) (pages : List Page) → s.is_honest l.fn.source → StandUpTo (s.bytes l.fn.source) l.fn.begin end pages → l.place ≤ end
          → IsPassed (s.bytes l.fn.source) l.fn.begin end l.at pages l.streams.items;
    }

abbrev pub decreases-pages : goal.decreases-pages
decreases-pages g l = l.place - l.at
