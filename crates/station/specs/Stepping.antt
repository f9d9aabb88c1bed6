-- What a step of a station has done, of the source that had the air and in numbers. Ours.
use Rattle.std.specs.Prelude.{◌≡◌, ⊤, ℕ, Bool, false, true, not, is_some, Option, None, Some, List, [], Result, Ok, Err}
use Rattle.disk_model.specs.declared.disk.Disk.{Ghosts as DiskModel}
use Rattle.feed_records.specs.declared.item.Record.TheVariants.{Flush}
use Rattle.feed_replies.specs.declared.reply.Reply.{Reply}
use Rattle.import_changes.specs.declared.options.Skeletons.{Skeletons}
use Rattle.file_recorder.specs.Recorder.{RecorderState}
use Rattle.import_mend.specs.declared.mend.Mend.{Mend}
use Rattle.import_record.specs.declared.fault.RecordFault.{RecordFault}
use Rattle.import_record.specs.declared.answering.Answered.{Answered}
use Rattle.import_record.specs.Running.{nothing}
use Rattle.import_record.specs.declared.intake.Taken.{Taken}
use Rattle.import_record.specs.declared.reading.ImportRun.{ImportRun}
use Rattle.import_record.specs.declared.reading.Step.{Step}
use Rattle.ogg_command.specs.declared.refusal.Refusal.{Refusal}
use Rattle.serve_clients.specs.Client.{ClientState}
use Rattle.serve_hub.specs.Parts.{is_at_rest}
use Rattle.serve_hub.specs.Running.{Answers, IsIn, Progress}
use Rattle.slab.specs.Slab.{Slab}
use Rattle.station_hub.specs.declared.live_hub.LiveHub.{LiveHub}
use Rattle.station_sources.specs.Air.{GoesOn, HasAllTaken, HasNoPage, IsWaiting, KeepsBytes, foreign_answer, noted, parting_answer}
use Rattle.station_sources.specs.Counting.{counted, with_mend, with_step, with_taken}
use Rattle.station_sources.specs.Taking.{GivesUpFor, TakesEnd, TakesStep}
use Rattle.station_sources.specs.declared.air.OnAir.{OnAir}
use Rattle.station_sources.specs.declared.counting.Counts.{Counts}
use Rattle.station.specs.Beginning.{BeginsBeside}
use Rattle.station.specs.Parting.{FeederParted, FeederParts}
use Rattle.station.specs.Succeeding.{IsSucceeded}
use Rattle.station.specs.declared.stepping.Done.{Done}
use Rattle.station.specs.declared.stepping.Done.TheVariants.{Bytes, Ended, Failed, Flushed, Foreign, GivenUp, Lost, Reopened, Stepped}

-- ---- nothing
-- Nothing is pending of the source: only further bytes of it, or its end, can make it go on. Or there is no source.
abbrev pub NothingPends : Option OnAir → Type 0
NothingPends None = ⊤
NothingPends (Some air) = IsWaiting air

-- ---- in numbers
abbrev pub with_done : Done → Counts → Counts
with_done (Stepped step) counts = with_step step counts
with_done (Ended offset junk taken refused) counts = with_taken taken (with_mend junk counts)
with_done (Foreign feeder passed refused) counts = record counts { sources_refused = counted counts.sources_refused 1 }
with_done (Reopened answered) counts = record counts { reopenings = counted counts.reopenings 1 }
with_done done counts = counts

-- ---- of the file
-- the file was opened again, or couldn't be
abbrev pub reopens : Done → Bool
reopens (Reopened answered) = true
reopens (Lost fault) = true
reopens Failed = true
reopens (GivenUp fault refused) = true
reopens done = false

-- ---- of what was open
-- what became of the ends alone that were run
abbrev pub only_refused : Result ⊤ Refusal → Answered
only_refused (Ok done) = nothing
only_refused (Err refusal) = record nothing { refused = Some refusal }

-- Nothing is left to be done in the file, unless something was refused.
abbrev pub RestsUnless : {D : Type 0} → Option Refusal → Option (RecorderState D) → Type 0
RestsUnless refused file = is_at_rest file ≡ not (is_some refused)

-- Once a source has left the air, what was open is ended and kept, or it is told why not.
abbrev pub RestsBy : {D : Type 0} → Done → Option (RecorderState D) → Type 0
RestsBy (Ended offset junk taken refused) file = RestsUnless refused file
RestsBy (Foreign feeder passed refused) file = RestsUnless refused file
RestsBy (GivenUp fault refused) file = RestsUnless refused file
RestsBy done file = ⊤

-- The same once the file was opened again, if nobody was on the air: what is open then is nobody's.
abbrev pub FreesBy : {D : Type 0} → Done → Option OnAir → Option (RecorderState D) → Type 0
FreesBy (Reopened answered) None file = RestsUnless answered.refused file
FreesBy done air file = ⊤

-- ---- of what waited
-- it was committed, or couldn't be, as the recorder answers a flush
pub record HasFlushed {D : Type 0} (model : DiskModel D) (done : Done) (old new : LiveHub D) : Type 0 where
  pub reply : Reply
  pub flushed : done ≡ Flushed reply
  pub answered : (before : Progress D) → IsIn model before old.hub → (after : Progress D)
      × Answers model before Flush reply [] after × IsIn model after new.hub

-- ---- of the source that had the air
module _ {D : Type 0} (model : DiskModel D) where
  -- A step was taken of its stream, as import_record takes it, and it still has the air.
  pub record HasStepped (step : Step) (air : OnAir) (now : Option OnAir) (new : LiveHub D) (before : Progress D) : Type 0 where
    pub source : OnAir
    pub after : Progress D
    pub on_air : now ≡ Some source
    pub keeps : KeepsBytes step air source
    pub reached : IsIn model after new.hub
    pub takes : TakesStep (Answers model) (HasAllTaken air) step air.import source.import before after

  -- The end of its stream was found, and what was open of it was ended.
  pub record HasEnded (offset : ℕ) (junk : Option Mend) (taken : Taken) (air : OnAir) (before : Progress D) : Type 0 where
    pub run : ImportRun
    pub after : Progress D
    pub takes : TakesEnd (Answers model) (HasAllTaken air) offset junk taken air.import run before after

  -- Bytes were looked for among those that have come, or came to its stream. Nothing was recorded.
  pub record HasPassedOn (air : OnAir) (now : Option OnAir) (old new : LiveHub D) : Type 0 where
    pub source : OnAir
    pub on_air : now ≡ Some source
    pub goes_on : GoesOn air source
    pub same : new ≡ old

  -- What was taken of the source, by what the step has done: what is recorded of it is what import_record says of its
  -- bytes.
  abbrev pub TakesFromSource : Done → OnAir → Option OnAir → LiveHub D → LiveHub D → Type 0
  TakesFromSource (Stepped step) air now old new = (before : Progress D) → IsIn model before old.hub → HasStepped step air now new before
  TakesFromSource (Ended offset junk taken refused) air now old new =
      (before : Progress D) → IsIn model before old.hub → HasEnded offset junk taken air before
  TakesFromSource Bytes air now old new = HasPassedOn air now old new
  TakesFromSource (Foreign feeder passed refused) air now old new = HasNoPage feeder passed air
  TakesFromSource done air now old new = ⊤

  -- The source was given up for want of memory, where there was no room, or since a read has failed.
  abbrev pub HasGivenUp : RecordFault → OnAir → LiveHub D → Type 0
  HasGivenUp fault air old = (before : Progress D) → IsIn model before old.hub → (last : ImportRun) × GivesUpFor fault air.short air.import last

-- The source has left the air, since its stream isn't Ogg.
abbrev pub IsTurnedAway : OnAir → Done → Type 0
IsTurnedAway air done = (refused : Option Refusal) × (done ≡ Foreign air.feeder air.import.input.pages.offset refused)

-- It goes on in the file that was opened again, and that something of it may be lost is noted.
abbrev pub GoesOnWithLoss : OnAir → Option OnAir → Type 0
GoesOnWithLoss air now = (after : OnAir) × (now ≡ Some after) × (after ≡ record air { import = after.import; lost = true })

-- If the source has left the air, its connection gets its last bytes. Something of the source may be lost if it was given
-- up, or if what was open of it couldn't be ended and kept. One that isn't Ogg is told so.
abbrev pub PartsBy : Done → OnAir → Slab ClientState → Slab ClientState → Type 0
PartsBy (Ended offset junk taken refused) air old new = FeederParts (parting_answer (is_some refused) (noted taken air)) air old new
PartsBy (Foreign feeder passed refused) air old new = FeederParts (foreign_answer air.body) air old new
PartsBy (GivenUp fault refused) air old new = FeederParts (parting_answer true air) air old new
PartsBy done air old new = ⊤

-- the same, and its connection may have got a turn since
abbrev pub PartedBy : Done → OnAir → Slab ClientState → Slab ClientState → Type 0
PartedBy (Ended offset junk taken refused) air old new = FeederParted (parting_answer (is_some refused) (noted taken air)) air old new
PartedBy (Foreign feeder passed refused) air old new = FeederParted (foreign_answer air.body) air old new
PartedBy (GivenUp fault refused) air old new = FeederParted (parting_answer true air) air old new
PartedBy done air old new = ⊤

-- If the source has left the air, it was offered to those that waited for it, in turn, until one of them had it.
abbrev pub IsSucceededBy : Done → Slab ClientState → Slab ClientState → Option OnAir → Type 0
IsSucceededBy (Ended offset junk taken refused) old new air = IsSucceeded old new air
IsSucceededBy (Foreign feeder passed refused) old new air = IsSucceeded old new air
IsSucceededBy (GivenUp fault refused) old new air = IsSucceeded old new air
IsSucceededBy done old new air = ⊤

-- If another source has the air then, its stream has just begun, beside these serials.
abbrev pub BeginsBy : Done → List ℕ → Skeletons → Option ImportRun → Type 0
BeginsBy (Ended offset junk taken refused) serials skeletons run = BeginsBeside serials skeletons run
BeginsBy (Foreign feeder passed refused) serials skeletons run = BeginsBeside serials skeletons run
BeginsBy (GivenUp fault refused) serials skeletons run = BeginsBeside serials skeletons run
BeginsBy done serials skeletons run = ⊤
