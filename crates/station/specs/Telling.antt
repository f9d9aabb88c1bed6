-- How a station fares, as it is told. Ours.
use Rattle.std.specs.Prelude.{◌≡◌, ℕ, ◌-◌, ◌/◌, Option, None, Some}
use Rattle.serve_texts.specs.declared.numbers.Mends.{Mends}
use Rattle.serve_texts.specs.declared.numbers.Numbers.{Numbers}
use Rattle.station_hub.specs.Telling.{in_seconds}
use Rattle.station_sources.specs.declared.air.OnAir.{OnAir}
use Rattle.station_sources.specs.declared.counting.Counts.{Counts}
use Rattle.serve_clients.specs.declared.kinds.Kinds.{Kinds}
use Rattle.station_sources.specs.declared.counting.MendCounts.{MendCounts}

abbrev pub mends_of : MendCounts → Mends
mends_of c =
    record { junk = c.junk; gaps = c.gap; restarts = c.restart; strangers = c.stranger; repeated = c.repeated; unfinished = c.unfinished; too_long = c.too_long; misshapen = c.misshapen; full = c.full }

-- these are the numbers that were counted
pub record IsCounted (counts : Counts) (numbers : Numbers) : Type 0 where
  pub streams : (numbers.packets ≡ counts.packets) × (numbers.mends ≡ mends_of counts.mends) × (numbers.reopenings ≡ counts.reopenings)
  pub commits : (numbers.commits ≡ counts.commits) × (numbers.commit_milliseconds ≡ counts.commit_microseconds / 1000)
  pub sources : (numbers.sources_accepted ≡ counts.sources) × (numbers.sources_refused ≡ counts.sources_refused)
  pub connections : (numbers.connections_refused ≡ counts.connections_refused) × (numbers.sent_bytes ≡ counts.sent)

-- so many connections of each kind are told
abbrev pub AreKinds : Kinds → Numbers → Type 0
AreKinds kinds numbers =
    (numbers.listeners ≡ kinds.listeners) × (numbers.sessions ≡ kinds.sessions) × (numbers.sources ≡ kinds.sources) × (numbers.others ≡ kinds.others)

-- for how many seconds a source has had the air
abbrev pub on_air_for : Option OnAir → ℕ → ℕ → ℕ
on_air_for None since now = 0
on_air_for (Some air) since now = in_seconds (now - since)
