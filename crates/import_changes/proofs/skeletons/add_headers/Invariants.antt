use Rattle.std.proofs.Common.{◌≡◌, ◌++◌}
use Rattle.import_changes.proofs.skeletons.add_headers.Given as goal

-- the headers so far are appended
abbrev pub invariant-loop-header : goal.invariant-loop-header
invariant-loop-header l = l.said.items ≡ l.fn.said.items ++ l.yielded
