use Rattle.std.proofs.Common.{◌≡◌, ◌+◌, length, sum_by, take}
use Rattle.import_gather.proofs.headers.left_behind.Given as goal

-- the headers so far were taken off
abbrev pub invariant-loop-header : goal.invariant-loop-header
invariant-loop-header l = l.left + sum_by length (take l.header-index l.headers) ≡ l.initial.left
