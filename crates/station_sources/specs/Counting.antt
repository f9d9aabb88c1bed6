-- What a station has done, in numbers. Ours.
use Rattle.std.specs.Prelude.{ℕ, ◌+◌, ◌^◌, ◌-◌, min, Option, Some, None}
use Rattle.import_mend.specs.declared.mend.Mend.{Mend}
use Rattle.import_mend.specs.declared.mend.Mend.TheVariants.{Junk, Gap, Restart, Stranger, Repeated, Unfinished, TooLong, Misshapen, Full}
use Rattle.import_record.specs.declared.intake.Taken.{Taken}
use Rattle.import_record.specs.declared.reading.Step.{Step}
use Rattle.import_record.specs.declared.reading.Step.TheVariants.{Flushed, PassedOver, Page, Ended}
use Rattle.station_sources.specs.declared.counting.Counts.{Counts}
use Rattle.station_sources.specs.declared.counting.MendCounts.{MendCounts}

-- a counter stops at its greatest value
abbrev pub counted : ℕ → ℕ → ℕ
counted count more = min (count + more) (2 ^ 64 - 1)

abbrev pub mended_by : Mend → MendCounts → MendCounts
mended_by (Junk _ _) c = record c { junk = counted c.junk 1 }
mended_by (Gap _ _ _ _) c = record c { gap = counted c.gap 1 }
mended_by (Restart _) c = record c { restart = counted c.restart 1 }
mended_by (Stranger _ _) c = record c { stranger = counted c.stranger 1 }
mended_by (Repeated _ _) c = record c { repeated = counted c.repeated 1 }
mended_by (Unfinished _ _) c = record c { unfinished = counted c.unfinished 1 }
mended_by (TooLong _ _) c = record c { too_long = counted c.too_long 1 }
mended_by (Misshapen _ _) c = record c { misshapen = counted c.misshapen 1 }
mended_by (Full _ _) c = record c { full = counted c.full 1 }

abbrev pub all_mends : MendCounts → ℕ
all_mends c =
    counted
    (counted (counted (counted c.junk c.gap) c.restart) (counted (counted c.stranger c.repeated) c.unfinished))
    (counted (counted c.too_long c.misshapen) c.full)

abbrev pub with_mend : Option Mend → Counts → Counts
with_mend None c = c
with_mend (Some mend) c = record c { mends = mended_by mend c.mends }

-- a page was taken, or the end of a stream
abbrev pub with_taken : Taken → Counts → Counts
with_taken taken c =
    with_mend taken.mend
    (record c { links = counted c.links taken.answered.links; packets = counted c.packets taken.answered.packets })

abbrev pub with_step : Step → Counts → Counts
with_step (Flushed reply) c = c
with_step PassedOver c = c
with_step (Page offset junk taken) c = with_taken taken (with_mend junk c)
with_step (Ended junk) c = with_mend junk c

-- ---- at the beginning
abbrev pub no_mends : MendCounts
no_mends = record { junk = 0; gap = 0; restart = 0; stranger = 0; repeated = 0; unfinished = 0; too_long = 0; misshapen = 0; full = 0 }

abbrev pub nothing_done : Counts
nothing_done = record { links = 0; packets = 0; mends = no_mends; sources = 0; sources_refused = 0; connections_refused = 0; commits = 0; commit_microseconds = 0; sent = 0; reopenings = 0 }
