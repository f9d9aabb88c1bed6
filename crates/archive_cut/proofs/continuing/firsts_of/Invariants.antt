use Rattle.std.proofs.Common.{List, drop}
use Rattle.ogg_page.specs.Page.{Page}
use Rattle.ogg_page.specs.Window.{KeepsSource}
use Rattle.archive_cut.specs.Continuing.{firsts_of}
use Rattle.archive_cut.specs.Heads.{StandUpTo}
use Rattle.archive_cut.proofs.Continued.{IsFound}
use Rattle.archive_cut.proofs.continuing.firsts_of.Given as goal

abbrev pub invariant-loop-stream : goal.invariant-loop-stream
invariant-loop-stream g l =
    let s = g.S.PageSource in
    record {
      source : KeepsSource s.bytes s.is_honest s.size s.only_reads l.fn.source l.source;
      left : (pages : List Page) → s.is_honest l.fn.source → StandUpTo (s.bytes l.fn.source) l.fn.begin l.end pages
          → IsFound (s.bytes l.fn.source) l.end l.place (drop l.stream-index l.streams) l.found.items (firsts_of l.streams pages);
    }
