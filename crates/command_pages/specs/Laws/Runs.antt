-- How many lacing values a run has: one for each packet at least, and few.
use Rattle.std.proofs.Common.{◌+◌, ◌≤◌, List, [], ◌∷◌, length, sum_by, arith}
use Rattle.std.proofs.lemmas.List.Sums.{sum_by-cons}
use Rattle.packetiser.specs.Run.{Timed, run_lacing, lengths}
use Rattle.packetiser.specs.Laws.Sizes.{values_in, bytes_in, length-run_lacing}

pub some_values : (run : List Timed) → length run ≤ length (run_lacing run)
some_values run = omega (arith, length-run_lacing run, each_has run)
  where
    each_has : (run : List Timed) → length run ≤ sum_by values_in run
    each_has [] = omega arith
    each_has (item ∷ run) = omega (arith, sum_by-cons values_in item run, each_has run)

pub few_values : (run : List Timed) → length (run_lacing run) ≤ lengths run + length run
few_values run = omega (arith, length-run_lacing run, few run)
  where
    few : (run : List Timed) → sum_by values_in run ≤ lengths run + length run
    few [] = omega arith
    few (item ∷ run) = omega (arith, sum_by-cons values_in item run, sum_by-cons bytes_in item run, few run)
