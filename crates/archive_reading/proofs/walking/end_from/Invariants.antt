use Rattle.std.proofs.Common.{◌≡◌, ◌-◌, ◌≤◌, ℕ}
use Rattle.ogg_page.specs.Window.{KeepsSource}
use Rattle.archive_reading.specs.Ends.{EndsFrom}
use Rattle.archive_reading.proofs.walking.end_from.Given as goal

abbrev pub invariant-loop-place : goal.invariant-loop-place
invariant-loop-place g l =
    let s = g.S.PageSource in
    record {
      after : l.from ≤ l.place;
      inside : l.place ≤ l.size;
      size_is : l.size ≡ s.size l.fn.source;
      source : KeepsSource s.bytes s.is_honest s.size s.only_reads l.fn.source l.source;
      later : s.failures l.fn.source ≤ s.failures l.source;
      left : (end : ℕ) → s.is_honest l.fn.source → EndsFrom (s.bytes l.fn.source) l.from end → EndsFrom (s.bytes l.fn.source) l.place end;
    }

abbrev pub decreases-loop-place : goal.decreases-loop-place
decreases-loop-place g l = l.size - l.place
