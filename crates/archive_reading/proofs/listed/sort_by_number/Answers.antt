use Rattle.std.proofs.Common.{rules}
use Rattle.std.proofs.lemmas.List.Sorted.{IsNonDecreasingBy-from_sort_by_key}
use Rattle.archive_reading.specs.declared.listed.Entry.{Entry}
use Rattle.archive_reading.proofs.listed.sort_by_number.Goals as goal

pub returns-clause-sorted : goal.returns-clause-sorted
returns-clause-sorted c = IsNonDecreasingBy-from_sort_by_key (λ (entry : Entry). entry.name.number) _ c.sort_unstable_by_key.ensures.sorted (λ a r q k. search rules)
