-- What a step adds to what was counted of streams.
use Rattle.std.proofs.Common.{◌≡◌, Option, Some, None, refl, sym, ◌∙◌, ap}
use Rattle.import_mend.specs.declared.mend.Mend.{Mend}
use Rattle.import_record.specs.declared.reading.Step.{Step}
use Rattle.import_record.specs.declared.reading.Step.TheVariants as Steps
use Rattle.import_record.specs.declared.intake.Taken.{Taken}
use Rattle.station_sources.specs.Counting.{counted, nothing_done, with_mend, with_step, with_taken}
use Rattle.station_sources.specs.declared.counting.Counts.{Counts}
use Rattle.station.specs.Clocks.{Streams, streams_in}
use Rattle.station.specs.Stepping.{with_done}
use Rattle.station.specs.declared.stepping.Done.{Done}
use Rattle.station.specs.declared.stepping.Done.TheVariants as Does

-- counts of which nothing else is known
abbrev from : Streams → Counts
from s = record nothing_done { links = s.links; packets = s.packets; mends = s.mends; reopenings = s.reopenings }

mended : (mend : Option Mend) (c : Counts) → streams_in (with_mend mend c) ≡ streams_in (with_mend mend (from (streams_in c)))
mended None c = refl
mended (Some mend) c = refl

abbrev with_more : Taken → Counts → Counts
with_more taken c = record c { links = counted c.links taken.answered.links; packets = counted c.packets taken.answered.packets }

more : (taken : Taken) (c : Counts) → streams_in (with_more taken c) ≡ streams_in (with_more taken (from (streams_in c)))
more taken c = refl

by_streams : (f : Counts → Counts) → ((c : Counts) → streams_in (f c) ≡ streams_in (f (from (streams_in c)))) → (one other : Counts)
    → streams_in one ≡ streams_in other → streams_in (f one) ≡ streams_in (f other)
by_streams f same one other is = same one ∙ ap (λ (s : Streams). streams_in (f (from s))) is ∙ sym (same other)

took : (junk : Option Mend) (taken : Taken) (one other : Counts) → streams_in one ≡ streams_in other
    → streams_in (with_taken taken (with_mend junk one)) ≡ streams_in (with_taken taken (with_mend junk other))
took junk taken one other is =
    by_streams (with_mend taken.mend) (mended taken.mend) (with_more taken (with_mend junk one)) (with_more taken (with_mend junk other))
    (by_streams (with_more taken) (more taken) (with_mend junk one) (with_mend junk other) (by_streams (with_mend junk) (mended junk) one other is))

stepped : (step : Step) (one other : Counts) → streams_in one ≡ streams_in other → streams_in (with_step step one) ≡ streams_in (with_step step other)
stepped (Steps.Flushed reply) one other is = is
stepped Steps.PassedOver one other is = is
stepped (Steps.Page offset junk taken) one other is = took junk taken one other is
stepped (Steps.Ended junk) one other is = by_streams (with_mend junk) (mended junk) one other is

abbrev reopened : Counts → Counts
reopened c = record c { reopenings = counted c.reopenings 1 }

pub done_counts : (done : Done) (one other : Counts) → streams_in one ≡ streams_in other → streams_in (with_done done one) ≡ streams_in (with_done done other)
done_counts Does.Nothing one other is = is
done_counts Does.Bytes one other is = is
done_counts (Does.Flushed reply) one other is = is
done_counts (Does.Stepped step) one other is = stepped step one other is
done_counts (Does.Ended offset junk taken refused) one other is = took junk taken one other is
done_counts (Does.Foreign feeder passed refused) one other is = is
done_counts (Does.GivenUp fault refused) one other is = is
done_counts (Does.Reopened answered) one other is = by_streams reopened (λ c. refl) one other is
done_counts (Does.Lost fault) one other is = is
done_counts Does.Failed one other is = is
