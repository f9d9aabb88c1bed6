-- What a station knows of times, and what it has counted of streams. Times are milliseconds. Ours.
use Rattle.std.specs.Prelude.{◌≡◌, ℕ, zero, suc, Bool, true, false, Option, Some, None, length}
use Rattle.disk_model.specs.declared.disk.Disk.{Ghosts as DiskModel}
use Rattle.serve_hub.specs.Showing.{Shows}
use Rattle.serve_machine.specs.Hub.{HubState}
use Rattle.station_hub.specs.declared.live_hub.LiveHub.{LiveHub}
use Rattle.station_sources.specs.declared.counting.Counts.{Counts}
use Rattle.station_sources.specs.declared.counting.MendCounts.{MendCounts}
use Rattle.station.specs.declared.station.Options.{Options}
use Rattle.station.specs.declared.station.Station.{Station}

-- what was counted of streams
pub record Streams : Type 0 where
  pub links : ℕ
  pub packets : ℕ
  pub mends : MendCounts
  pub reopenings : ℕ

abbrev pub streams_in : Counts → Streams
streams_in counts = record { links = counts.links; packets = counts.packets; mends = counts.mends; reopenings = counts.reopenings }

-- How it is run; since when what waits has waited; what was committed when the file was last opened again; since when it comes
-- to its end; when everybody was looked at; and what was counted of streams.
pub record Clocks : Type 0 where
  pub options : Options
  pub waiting_since : ℕ
  pub reopened : Option ℕ
  pub ending : Option ℕ
  pub looked : ℕ
  pub streams : Streams

abbrev pub clocks_of : {D : Type 0} → Station D → Clocks
clocks_of station =
    record { options = station.options; waiting_since = station.waiting_since; reopened = station.reopened; ending = station.ending; looked = station.looked; streams = streams_in station.counts }

-- none of this is another
abbrev pub KeepsClocks : {D : Type 0} → Station D → Station D → Type 0
KeepsClocks old new = clocks_of new ≡ clocks_of old

-- What waits has waited since now, if nothing waited before.
abbrev pub since_after : ℕ → ℕ → ℕ → ℕ
since_after zero old now = now
since_after (suc waiting) old now = old

-- it comes to its end from now on, unless it does already
abbrev pub ended_from : Option ℕ → ℕ → Option ℕ
ended_from None now = Some now
ended_from (Some since) now = Some since

-- if it ends with its input
abbrev pub ended_with_input : Bool → Option ℕ → ℕ → Option ℕ
ended_with_input true ending now = ended_from ending now
ended_with_input false ending now = ending

-- so many bytes were committed when the file was opened again
abbrev pub HasReopenedAt : {D : Type 0} → DiskModel D → LiveHub D → Option ℕ → Type 0
HasReopenedAt model live reopened = (machine : HubState) → Shows model live.hub machine → reopened ≡ Some (length machine.committed)
