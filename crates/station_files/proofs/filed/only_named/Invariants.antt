use Rattle.std.proofs.Common.{◌≡◌, ◌++◌, drop}
use Rattle.std.specs.Prelude.{filter, option_to_list}
use Rattle.station_files.specs.Named.{has_number}
use Rattle.station_files.proofs.filed.only_named.Given as goal

-- what is found and what is left are all that have the number
abbrev pub invariant-loop-name : goal.invariant-loop-name
invariant-loop-name l =
    option_to_list l.found ++ filter (has_number l.number) (drop l.name-index l.names) ≡ filter (has_number l.number) l.names
