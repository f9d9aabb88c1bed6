-- A station to which nothing has happened. Ours.
use Rattle.std.specs.Prelude.{◌≡◌, ℕ, None, []}
use Rattle.slab.specs.Slab.{get}
use Rattle.serve_clients.specs.Kinds.{nobody}
use Rattle.station_hub.specs.Waking.{woken_at}
use Rattle.station_sources.specs.Counting.{nothing_done}
use Rattle.station.specs.declared.station.Options.{Options}
use Rattle.station.specs.declared.station.Station.{Station}

-- It is run by these options. Nobody has the air, nothing waits or was opened again, and it doesn't come to its end.
pub record IsIdle {D : Type 0} (options : Options) (station : Station D) : Type 0 where
  pub options_are : station.options ≡ options
  pub air : station.air ≡ None
  pub ending : station.ending ≡ None
  pub reopened : station.reopened ≡ None
  pub spare : station.spare.items ≡ []
  pub counts : station.counts ≡ nothing_done
  pub elsewhere : station.elsewhere ≡ nobody
  pub clocks : (station.waiting_since ≡ 0) × (station.on_air_since ≡ 0) × (station.looked ≡ 0) × (station.waking ≡ woken_at 0 0)
  pub commits : (station.commits ≡ 0) × (station.commits_a_second ≡ 0)

-- and nobody is connected
pub record IsBegun {D : Type 0} (options : Options) (station : Station D) : Type 0 where
  pub idle : IsIdle options station
  pub none : (key : ℕ) → get station.clients.slots key ≡ None
  pub turns : station.clients.turns.items ≡ []
