use Rattle.std.proofs.Common.{◌≤◌, List}
use Rattle.ogg_page.specs.Page.{Page}
use Rattle.ogg_page.specs.Window.{KeepsSource}
use Rattle.ogg_split.specs.Asked.{AreIndexed}
use Rattle.ogg_finish.proofs.InTurn.{LinksWritten}
use Rattle.ogg_finish.proofs.finishing.finish_file.Given as goal

abbrev pub invariant-loop-link : goal.invariant-loop-link
invariant-loop-link g l =
    let s = g.S.PageSource in
    let old = l.fn.window.source in
    record {
      source : KeepsSource s.bytes s.is_honest s.size s.only_reads old l.window.source;
      later : s.failures old ≤ s.failures l.window.source;
      written : (links : List (List Page)) → s.is_honest old → AreIndexed links l.fn.index (s.bytes old)
          → LinksWritten links l.link (g.W.Write.contents l.fn.out) (g.W.Write.contents l.out);
    }
