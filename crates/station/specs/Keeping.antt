-- What calls leave of the source that has the air. Ours.
use Rattle.std.specs.Prelude.{◌≡◌, ◌≢◌, ◌⊎◌, ⊤, ℕ, true, List, length, Option, Some, None}
use Rattle.station_sources.specs.Air.{HoldsMore, IsShort}
use Rattle.station_sources.specs.declared.air.Feeder.{Feeder}
use Rattle.station_sources.specs.declared.air.Feeder.TheVariants.{Gone}
use Rattle.station_sources.specs.declared.air.OnAir.{OnAir}

-- The source is as it was, if it is another feeder's.
abbrev pub OthersAirStays : Feeder → Option OnAir → Option OnAir → Type 0
OthersAirStays feeder None new = ⊤
OthersAirStays feeder (Some air) new = air.feeder ≢ feeder → new ≡ Some air

-- Further bytes of this feeder have come: they are kept, or there is no room for them, and that is noted. Those of another
-- than has the air change nothing.
abbrev pub IsFedMore : Feeder → List ℕ → Option OnAir → Option OnAir → Type 0
IsFedMore feeder bytes None new = new ≡ None
IsFedMore feeder bytes (Some air) new =
    (air.feeder ≡ feeder → (after : OnAir) × (new ≡ Some after) × (after.feeder ≡ air.feeder)
    × (HoldsMore bytes air after ⊎ IsShort (length bytes) air after))
    × (air.feeder ≢ feeder → new ≡ Some air)

-- No further byte comes of this feeder.
abbrev pub IsEndedBy : Feeder → Option OnAir → Option OnAir → Type 0
IsEndedBy feeder None new = new ≡ None
IsEndedBy feeder (Some air) new =
    (air.feeder ≡ feeder → new ≡ Some (record air { ended = true })) × (air.feeder ≢ feeder → new ≡ Some air)

-- The same, and nobody waits for its answer.
abbrev pub IsLostBy : Feeder → Option OnAir → Option OnAir → Type 0
IsLostBy feeder None new = new ≡ None
IsLostBy feeder (Some air) new =
    (air.feeder ≡ feeder → new ≡ Some (record air { feeder = Gone; ended = true })) × (air.feeder ≢ feeder → new ≡ Some air)
