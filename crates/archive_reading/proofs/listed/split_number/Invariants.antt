use Rattle.std.proofs.Common.{◌≡◌, ◌++◌, List, length}
use Rattle.std.specs.List.{AllByRecursion}
use Rattle.archive_reading.specs.declared.listed.Entry.{Entry}
use Rattle.archive_reading.proofs.listed.split_number.Given as goal

-- so many names in front have the number
abbrev pub invariant-loop-entry : goal.invariant-loop-entry
invariant-loop-entry l =
    (front : List Entry) × (l.entries ≡ front ++ l.rest) × (length front ≡ l.count) × AllByRecursion (λ (entry : Entry). entry.name.number ≡ l.number) front

abbrev pub decreases-loop-entry : goal.decreases-loop-entry
decreases-loop-entry l = length l.rest
