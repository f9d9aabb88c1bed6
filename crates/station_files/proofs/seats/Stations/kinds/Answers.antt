use Rattle.std.proofs.Common.{List, ◌∙◌, ap}
use Rattle.station_files.specs.Places.{kinds_at}
use Rattle.station_files.specs.declared.seats.Past.{Past}
use Rattle.station_files.proofs.seats.Stations.kinds.Goals as goal

pub returns : goal.returns
returns g c = c.kinds_in.ensures ∙ ap (λ (past : List (Past _)). kinds_at past) c.as_slice.ensures.value
