use Rattle.std.proofs.Common.{◌≡◌, [], length, refl, ◌∙◌, arith}
use Rattle.packetiser.specs.Run.{run_lacing, pages_of_run, flagged}
use Rattle.packetiser.proofs.paging.RunPages.none.Goals as goal

no_values : length (run_lacing []) ≡ 0
unfolding run_lacing
no_values = refl

no_pages : flagged 0 (pages_of_run 0 0 []) ≡ []
unfolding pages_of_run run_lacing
no_pages = refl

pub of-requires-clause-numbers : goal.of-requires-clause-numbers
of-requires-clause-numbers g c = omega (arith, no_values)

pub returns : goal.returns
returns g c = c.of.ensures ∙ no_pages
