use Rattle.std.proofs.Common.{◌≡◌, drop}
use Rattle.archive_times.specs.Times.{behind_feed}
use Rattle.archive_times.proofs.reading.after_line_feed.Given as goal

-- no line feed has come yet
abbrev pub invariant-loop-at : goal.invariant-loop-at
invariant-loop-at l = behind_feed (drop l.at l.text) ≡ behind_feed l.text
