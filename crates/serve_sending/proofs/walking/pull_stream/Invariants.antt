use Rattle.std.proofs.Common.{length, ◌≡◌, ◌≤◌, ℕ, List, ◌++◌}
use Rattle.ogg_page.specs.Window.{KeepsSource}
use Rattle.serve_machine.specs.Places.{IsStreamRest}
use Rattle.serve_sending.specs.Walking.{IsPulled, to_go}
use Rattle.serve_sending.proofs.walking.pull_stream.Given as goal

abbrev pub invariant-pages : goal.invariant-pages
invariant-pages g l =
    let s = g.S.PageSource in
    record {
      room : l.given ≤ length l.buffer;
      whole : length l.buffer ≡ length l.fn.buffer;
      source : KeepsSource s.bytes s.is_honest s.size s.only_reads l.fn.source l.source;
      later : s.failures l.fn.source ≤ s.failures l.source;
      pulled : (committed more rest : List ℕ) → s.is_honest l.fn.source → s.bytes l.fn.source ≡ committed ++ more
          → IsStreamRest committed l.serial l.fn.start.place l.fn.start.skip l.fn.start.count rest
          → IsPulled committed rest l.serial l.left l.given l.buffer;
    }

abbrev pub decreases-pages : goal.decreases-pages
decreases-pages g l = to_go (g.S.PageSource.size l.source) (length l.buffer) l.left l.given
