use Rattle.std.proofs.Common.{◌≡◌}
use Rattle.serve_live.proofs.Rows.{by_row}
use Rattle.serve_live.proofs.checksums.moved.Given as goal

-- the bits so far
abbrev pub invariant-loop-place : goal.invariant-loop-place
invariant-loop-place l = l.sum ≡ by_row l.place l.row l.before
