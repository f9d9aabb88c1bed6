-- What a step takes of a source's stream, and its end.
use Rattle.std.proofs.Common.{◌≡◌, ◌≢◌, ℕ, Option, Result, Ok, Err, subst}
use Rattle.ogg_page.specs.Reading.{page_at}
use Rattle.ogg_page.specs.declared.fault.PageFault.TheVariants.{Short}
use Rattle.feed_replies.specs.declared.reply.Reply.{Reply}
use Rattle.import_mend.specs.declared.mend.Mend.{Mend}
use Rattle.import_record.specs.declared.intake.Taken.{Taken}
use Rattle.import_record.specs.Pushing.{NeedsNone}
use Rattle.import_record.specs.Reading.{IsDue}
use Rattle.import_record.specs.declared.fault.RecordFault.{RecordFault}
use Rattle.import_record.specs.declared.reading.ImportRun.{ImportRun}
use Rattle.import_record.specs.declared.reading.Step.{Step}
use Rattle.import_record.specs.declared.reading.Step.TheVariants.{Flushed, PassedOver, Page, Ended as EndedAt}
use Rattle.station_sources.specs.declared.air.Took.{Took}
use Rattle.station_sources.specs.declared.air.Took.TheVariants.{Ended}

-- a step needs no more bytes if it is known what comes next
pub needs_none : (step : Step) (run : ImportRun) → page_at run.input.pages.unread ≢ Err Short → NeedsNone step run.input.pages
needs_none (Flushed reply) run known = tt
needs_none PassedOver run known = known
needs_none (Page offset junk taken) run known = known
needs_none (EndedAt junk) run known = known

-- what waits is flushed only if it isn't known what comes next
pub flush_waits : (step : Step) (reply : Reply) → step ≡ Flushed reply → (held : ℕ) (old new : ImportRun) → IsDue step held old.input.pages new.input.pages
    → page_at old.input.pages.unread ≡ Err Short
flush_waits step reply is held old new due = (subst (λ (one : Step). IsDue one held old.input.pages new.input.pages) is due).1

abbrev ended : ℕ → Option Mend → Taken → Result Took RecordFault
ended offset junk taken = Ok (Ended offset junk taken)

-- what holds of an end holds of the one that is told
pub same_end : (P : ℕ → Option Mend → Taken → Type 0) (offset other : ℕ) (junk more : Option Mend) (taken last : Taken)
    → ended offset junk taken ≡ ended other more last → P offset junk taken → P other more last
same_end P offset other junk more taken last is holds =
    let offsets : offset ≡ other = cc in
    let junks : junk ≡ more = cc in
    let ends : taken ≡ last = cc in
    subst (λ (o : ℕ). P o more last) offsets (subst (λ (j : Option Mend). P offset j last) junks (subst (λ (t : Taken). P offset junk t) ends holds))
