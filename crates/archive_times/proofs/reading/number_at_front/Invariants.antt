use Rattle.std.proofs.Common.{◌≡◌, drop}
use Rattle.archive_times.specs.Reading.{number_on}
use Rattle.archive_times.proofs.reading.number_at_front.Given as goal

-- what is left goes on from the number so far
abbrev pub invariant-loop-at : goal.invariant-loop-at
invariant-loop-at l = number_on l.value (drop l.at l.text) ≡ number_on 0 l.text
