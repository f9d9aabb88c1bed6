-- What has come of a source, and isn't recorded yet. Ours.
use Rattle.std.specs.Prelude.{◌≡◌, ◌≢◌, ◌⊎◌, ◌<◌, false, Err, vec_len}
use Rattle.ogg_page.specs.Reading.{page_at}
use Rattle.ogg_page.specs.declared.fault.PageFault.TheVariants.{Short}
use Rattle.station_sources.specs.declared.air.OnAir.{OnAir}

-- a page is at hand, or bytes of the stream are, or bytes have come that weren't looked at
abbrev pub HasCome : OnAir → Type 0
HasCome air = (page_at air.import.input.pages.unread ≢ Err Short)
    ⊎ ((0 < air.decoded) ⊎ ((air.starved ≡ false) × (air.at < vec_len air.pending)))
