use Rattle.std.proofs.Common.{List, ◌∙◌, ap}
use Rattle.station_files.specs.Places.{readers_in}
use Rattle.station_files.specs.declared.seats.Past.{Past}
use Rattle.station_files.proofs.seats.Stations.readers.Goals as goal

pub returns : goal.returns
returns g c = c.readers_in.ensures ∙ ap (λ (past : List (Past _)). readers_in past) c.as_slice.ensures.value
