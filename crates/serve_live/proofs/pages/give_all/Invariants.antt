use Rattle.std.proofs.Common.{◌≡◌, ◌+◌, ◌-◌, ◌≤◌, ℕ, List, length}
use Rattle.serve_live.specs.Pulling.{AreGiven}
use Rattle.serve_live.proofs.pages.give_all.Given as goal

abbrev pub invariant-pages : goal.invariant-pages
invariant-pages l = record {
  some : l.before ≤ l.given;
  room : l.given ≤ l.end;
  whole : length l.buffer ≡ length l.fn.buffer;
  skip : l.left.skip ≡ 0;
  place : l.left.place ≡ l.fn.start.place + (l.given - l.before);
  none : l.given ≡ l.before → l.left ≡ l.fn.start;
  gives : (committed more rest : List ℕ) → l.fn.start.place + (l.end - l.before) ≤ length committed
      → AreGiven committed more rest l.names l.fn.start l.fn.start l.before l.end l.fn.buffer
      → AreGiven committed more rest l.names l.fn.start l.left l.given l.end l.buffer;
}

abbrev pub decreases-pages : goal.decreases-pages
decreases-pages l = l.end - l.given
