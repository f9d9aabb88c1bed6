use Rattle.std.proofs.Common.{◌≡◌, length}
use Rattle.serve_live.specs.Boundaries.{forgotten}
use Rattle.serve_live.proofs.boundaries.forget.Given as goal

-- what was forgotten so far may be
abbrev pub invariant-old : goal.invariant-old
invariant-old l = record {
  kept : forgotten l.end l.kept.items ≡ forgotten l.end l.initial.kept.items;
  room : l.kept.capacity ≡ l.initial.kept.capacity;
}

abbrev pub decreases-old : goal.decreases-old
decreases-old l = length l.kept.items
