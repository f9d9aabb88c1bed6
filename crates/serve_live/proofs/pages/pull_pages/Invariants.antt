use Rattle.std.proofs.Common.{length, ◌≡◌, ◌≤◌, ◌-◌, ℕ, List, ◌++◌}
use Rattle.ogg_page.specs.Window.{KeepsSource}
use Rattle.serve_live.specs.Pulling.{ArePulled, HasPassed}
use Rattle.serve_live.proofs.pages.pull_pages.Given as goal

abbrev pub invariant-pages : goal.invariant-pages
invariant-pages g l =
    let s = g.S.PageSource in
    record {
      room : l.given ≤ length l.buffer;
      whole : length l.buffer ≡ length l.fn.buffer;
      source : KeepsSource s.bytes s.is_honest s.size s.only_reads l.fn.source l.source;
      later : s.failures l.fn.source ≤ s.failures l.source;
      pulled : (committed more rest : List ℕ) → s.is_honest l.fn.source → s.bytes l.fn.source ≡ committed ++ more
          → length committed ≡ l.end → ArePulled committed rest l.names l.fn.start 0 l.fn.buffer
          → ArePulled committed rest l.names l.left l.given l.buffer;
      passes : (committed more rest : List ℕ) → s.is_honest l.fn.source → s.bytes l.fn.source ≡ committed ++ more
          → length committed ≡ l.end → ArePulled committed rest l.names l.fn.start 0 l.fn.buffer
          → HasPassed committed l.fn.start l.left;
    }

abbrev pub decreases-pages : goal.decreases-pages
decreases-pages g l = length l.buffer - l.given
