-- What is done with a source that has the air, by a list of a station's calls. Ours.
use Rattle.std.specs.Prelude.{◌≡◌, ⊤, ℕ, ◌+◌, ◌-◌, ◌<◌, ◌^◌, Some, None, List, [], ◌∷◌, ◌++◌, length}
use Rattle.disk_model.specs.declared.disk.Disk.{Ghosts as DiskModel}
use Rattle.feed_records.specs.declared.item.Record.{Record}
use Rattle.feed_replies.specs.declared.reply.Reply.{Reply}
use Rattle.import_changes.specs.declared.options.ChangeOptions.{ChangeOptions}
use Rattle.import_mend.specs.Found.{AreGoodPages, HoldsNone}
use Rattle.import_record.specs.Pushing.{Imports, InputState, NeedsNone}
use Rattle.import_record.specs.Steps.{Ends, state_of}
use Rattle.import_record.specs.Whole.{Done as Recording, Event, IsRecorded, Records, pages_in}
use Rattle.import_record.specs.declared.intake.Taken.{Taken}
use Rattle.import_record.specs.declared.reading.ImportRun.{ImportRun}
use Rattle.import_record.specs.declared.reading.Step.{Step}
use Rattle.import_record.specs.declared.reading.Step.TheVariants.{Ended}
use Rattle.serve_hub.specs.Running.{Answers, Progress}
use Rattle.serve_machine.specs.Hub.{HubState}
use Rattle.station_hub.specs.Keeping.{KeepsRecorded}
use Rattle.station_hub.specs.declared.live_hub.LiveHub.{LiveHub}
use Rattle.station_sources.specs.Air.{HoldsMore}
use Rattle.station_sources.specs.Beginning.{IsNew}
use Rattle.station_sources.specs.Importing.{IsUntaken, rest_of}
use Rattle.station_sources.specs.Taking.{input_of}
use Rattle.station_sources.specs.declared.air.OnAir.{OnAir}
use Rattle.station.specs.Stepping.{HasFlushed, TakesFromSource}
use Rattle.station.specs.declared.stepping.Done.TheVariants.{Bytes, Flushed, Stepped}

-- A call of a station while a source has the air, by what it is for that source. Bytes of it came. It was noted that none
-- come any more, or that there was no room for some. Or a step did something: bytes went on to its pages, or something was
-- taken of its stream, or what waited was committed since it was due. Or the call was for another connection.
pub data SourceCall : Type 0 where
  Came : (bytes : List ℕ) → SourceCall
  Noted : SourceCall
  WentOn : SourceCall
  Took : (step : Step) → SourceCall
  Committed : (reply : Reply) → SourceCall
  Other : SourceCall

-- all bytes that came
abbrev pub came_in : List SourceCall → List ℕ
came_in [] = []
came_in (Came bytes ∷ later) = bytes ++ came_in later
came_in (call ∷ later) = came_in later

-- ---- what is recorded
-- the machine as those see it who look at its file alone
abbrev pub file_of : HubState → HubState
file_of machine = record machine { sessions = []; next_id = 0 }

-- the step didn't find the end
abbrev pub FindsNoEnd : Step → Type 0
FindsNoEnd (Ended junk) = ⊥
FindsNoEnd step = ⊤

module _ {D : Type 0} (model : DiskModel D) where
  -- a hub whose file was this one answers so, and then its file is that one
  abbrev pub AnswersOn : HubState → Record → Reply → List ℕ → HubState → Type 0
  AnswersOn old given reply own new =
      (before : Progress D) × (after : Progress D) × (file_of before.machine ≡ old) × (file_of after.machine ≡ new)
      × Answers model before given reply own after

  -- These calls came in turn, and this is what each of them said: of the source, and of the hub. No step needed more bytes
  -- than those that had come to the stream.
  abbrev pub AreCalled : List SourceCall → OnAir → OnAir → LiveHub D → LiveHub D → Type 0
  AreCalled [] old new live last = (new ≡ old) × (last ≡ live)
  AreCalled (Came bytes ∷ later) old new live last =
      (next : OnAir) × (between : LiveHub D) × HoldsMore bytes old next × KeepsRecorded model live.hub between.hub
      × AreCalled later next new between last
  AreCalled (Noted ∷ later) old new live last =
      (next : OnAir) × (between : LiveHub D) × IsUntaken old next × KeepsRecorded model live.hub between.hub
      × AreCalled later next new between last
  AreCalled (WentOn ∷ later) old new live last =
      (next : OnAir) × (between : LiveHub D) × TakesFromSource model Bytes old (Some next) live between × AreCalled later next new between last
  AreCalled (Took step ∷ later) old new live last =
      (next : OnAir) × (between : LiveHub D) × NeedsNone step old.import.input.pages × TakesFromSource model (Stepped step) old (Some next) live between
      × AreCalled later next new between last
  AreCalled (Committed reply ∷ later) old new live last =
      (between : LiveHub D) × HasFlushed model (Flushed reply) live between × AreCalled later old new between last
  AreCalled (Other ∷ later) old new live last =
      (between : LiveHub D) × KeepsRecorded model live.hub between.hub × AreCalled later old new between last

  -- No more bytes come, and all that came had been taken. These calls came then, up to the step that found the end.
  abbrev pub AreLast : List SourceCall → OnAir → OnAir → LiveHub D → LiveHub D → Type 0
  AreLast [] old new live last = (new ≡ old) × (last ≡ live)
  AreLast (Came bytes ∷ later) old new live last = ⊥
  AreLast (Noted ∷ later) old new live last =
      (next : OnAir) × (between : LiveHub D) × IsUntaken old next × KeepsRecorded model live.hub between.hub × AreLast later next new between last
  AreLast (WentOn ∷ later) old new live last = ⊥
  AreLast (Took step ∷ later) old new live last =
      (next : OnAir) × (between : LiveHub D) × FindsNoEnd step × TakesFromSource model (Stepped step) old (Some next) live between
      × AreLast later next new between last
  AreLast (Committed reply ∷ later) old new live last =
      (between : LiveHub D) × HasFlushed model (Flushed reply) live between × AreLast later old new between last
  AreLast (Other ∷ later) old new live last =
      (between : LiveHub D) × KeepsRecorded model live.hub between.hub × AreLast later old new between last

  -- The source left the air by the step that found its end at this offset. What was recorded of it is an import of the bytes
  -- that came to its stream; then what was open of it was ended.
  pub record IsImported (calls : List SourceCall) (offset : ℕ) (taken : Taken) (old mid : OnAir) (machine : HubState) : Type 0 where
    pub bytes : List ℕ
    pub events : List Event
    pub found : InputState
    pub run : ImportRun
    pub reached : HubState
    pub after : HubState
    pub imports : Imports AnswersOn bytes events (input_of old.import) found (file_of machine) reached
    pub ends : Ends AnswersOn offset found.intake (state_of run) taken reached after None None
    -- without a framing these are all bytes that came
    pub bytes_are : old.body ≡ None → rest_of old ++ came_in calls ≡ bytes ++ rest_of mid
    -- the pages that were taken are the good pages of these bytes
    pub pages : old.import.input.pages.outcome ≡ None → old.import.input.pages.offset + length (old.import.input.pages.unread ++ bytes) < 2 ^ 64 - 1
        → (rest : List ℕ) × AreGoodPages old.import.input.pages.offset (old.import.input.pages.unread ++ bytes) (pages_in events) rest × HoldsNone rest
    -- Of a source that had just begun: its commands are those of the mended pages, under serials that are free.
    pub recorded : (options : ChangeOptions) (serials : List ℕ) → IsNew options serials old.import
        → (done : Recording) × Records AnswersOn events (state_of old.import) found.intake done (file_of machine) reached
        × IsRecorded AnswersOn serials found.intake done (file_of machine) reached
