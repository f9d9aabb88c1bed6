-- What is recorded of an input over the files of an archive, one after the other, whichever calls are made. Ours.
use Rattle.std.specs.Prelude.{◌≡◌, ℕ, Bool, false, Option, Some, None, List, [], ◌∷◌, ◌++◌}
use Rattle.std.specs.List.{AllByRecursion}
use Rattle.disk_model.specs.declared.disk.Disk.{Ghosts as DiskModel}
use Rattle.archive_folder.specs.Names.{Place}
use Rattle.chain_rules.specs.Commands.{bytes_of_commands}
use Rattle.feed_runner.specs.Counting.{kept_after}
use Rattle.file_recorder.specs.Recorder.{committed}
use Rattle.file_recorder.specs.Recovery.{Links}
use Rattle.file_recorder.specs.Steps.{HasSteps, HasWaiting}
use Rattle.import_changes.specs.Changed.{Become}
use Rattle.import_record.specs.Resuming.{holds_open}
use Rattle.file_recorder.specs.Running.{Progress, progress}
use Rattle.import_record.specs.Pushing.{Comes, NeedsNone}
use Rattle.import_record.specs.Steps.{IntakeState}
use Rattle.import_record.specs.Whole.{Done, Event, GivesOn, GoOn, Records, pages_in}
use Rattle.import_record.specs.Whole.Event.{Resuming}
use Rattle.import_record.specs.declared.answering.Answered.{Answered}
use Rattle.import_record.specs.declared.reading.ImportRun.{ImportRun}
use Rattle.import_record.specs.declared.reading.Step.{Step}
use Rattle.import_mend.specs.declared.mend.Mend.{Mend}
use Rattle.ogg_command.specs.declared.command.Command.{Command}
use Rattle.ogg_page.specs.Window.{LentAt}
use Rattle.archive_record.specs.Changing.{EndsOpen, GoesOver, HasEnded, HasNotEnded, IsReopened, IsSetAside, holding_all}
use Rattle.archive_record.specs.Filing.{IsNew, unwritten}
use Rattle.archive_record.specs.Stepping.{HasFlushed, HasStepped, input_of}
use Rattle.archive_record.specs.Writing.{AnswersIn, IsNow, Writing}
use Rattle.archive_record.specs.declared.newest.Newest.{Newest}

-- ---- the calls
-- A call of an archive while an input is recorded, by what became of it. Bytes of the input came; or a step was taken of it;
-- or what waited was flushed. Nothing was due, or the archive went over to its next file, or the disk failed before. Or,
-- after the disk has failed, the file was opened again, or left as it is.
pub data Call (F : Type 0) : Type 0 where
  Came : (bytes : List ℕ) → Call F
  Took : (step : Step) → Call F
  Flushed : Call F
  Looked : Call F
  WentOver : (folder : F) (answered : Answered) → Call F
  Unended : Call F
  Reopened : (answered : Answered) → Call F
  SetAside : (answered : Answered) → Call F

-- all bytes that came
abbrev pub came_in : {F : Type 0} → List (Call F) → List ℕ
came_in [] = []
came_in (Came bytes ∷ later) = bytes ++ came_in later
came_in (call ∷ later) = came_in later

-- ---- the files
-- How the recording comes from one file to the next: the one has ended, or is left as it is, since its disk has failed. Or
-- it is the same file: it was opened again, or its disk failed before it had ended.
pub data Change (F : Type 0) : Type 0 where
  Over : (folder : F) → Change F
  Aside : Change F
  Again : Change F
  Stays : Change F

-- What is recorded into a file, from when its recorder began until it ended or failed.
pub record Part (D F : Type 0) : Type 0 where
  pub change : Change F
  pub events : List Event
  pub done : Done
  pub begun : Writing D
  pub last : Writing D

-- the pages that are taken in all these parts, what was mended of each, and the commands that the mended pages hold
abbrev pub pages_of : {D F : Type 0} → List (Part D F) → List LentAt
pages_of [] = []
pages_of (part ∷ later) = pages_in part.events ++ pages_of later

abbrev pub mends_of : {D F : Type 0} → List (Part D F) → List (Option Mend)
mends_of [] = []
mends_of (part ∷ later) = part.done.mends ++ mends_of later

abbrev pub more_of : {D F : Type 0} → List (Part D F) → List Command
more_of [] = []
more_of (part ∷ later) = part.done.more ++ more_of later

-- The recording goes on in a file by this event first: beside the serials of the file before, as in a file that has no
-- link open. In a file that was opened again it goes on by what that file has.
abbrev pub goes_on_by : {D F : Type 0} → Change F → Writing D → Writing D → List Event
goes_on_by (Over folder) before begun = Resuming [] before.progress.now.chain.serials ∷ []
goes_on_by Aside before begun = Resuming [] before.progress.now.chain.serials ∷ []
goes_on_by Again before begun = Resuming begun.progress.now.chain.streams begun.progress.now.chain.serials ∷ []
goes_on_by Stays before begun = []

-- nothing waits, and the disk works
abbrev pub Works : {D : Type 0} → Writing D → Type 0
Works begun = (begun.progress.now.held ≡ 0) × (begun.progress.now.file.failed ≡ false)

-- It begins its own history, and if no bound is set, nothing was recorded into it before.
abbrev pub Begins : {D : Type 0} → DiskModel D → Option ℕ → Writing D → Type 0
Begins model bound begun =
    (begun.progress ≡ progress [] unwritten begun.progress.now) × (bound ≡ None → IsNew model begun.progress.now)

module _ {D F : Type 0} (model : DiskModel D) (is_honest : F → Type 0) (file_in : F → ℕ → Place D) (bound : Option ℕ) where
  -- These calls came in turn, and this is what each of them said: of the newest file, and of the input. No step needed more
  -- bytes than those that had come.
  abbrev pub AreCalled : List (Call F) → Option (Newest D) → ImportRun → Option (Newest D) → ImportRun → Type 0
  AreCalled [] old run new last = (new ≡ old) × (last ≡ run)
  AreCalled (Came bytes ∷ later) old run new last =
      (next : ImportRun) × Comes bytes (input_of run) (input_of next) × AreCalled later old next new last
  AreCalled (Took step ∷ later) old run new last =
      (now : Option (Newest D)) × (next : ImportRun) × NeedsNone step run.input.pages
      × ((before : Writing D) → IsNow before old → HasStepped model step run next before now) × AreCalled later now next new last
  AreCalled (Flushed ∷ later) old run new last =
      (now : Option (Newest D)) × ((before : Writing D) → IsNow before old → HasFlushed model before now) × AreCalled later now run new last
  AreCalled (Looked ∷ later) old run new last = AreCalled later old run new last
  AreCalled (WentOver folder answered ∷ later) old run new last =
      (now : Option (Newest D)) × (next : ImportRun)
      × ((before : Writing D) → IsNow before old → GoesOver model is_honest file_in folder bound run next answered before now)
      × AreCalled later now next new last
  AreCalled (Unended ∷ later) old run new last =
      (now : Option (Newest D)) × (newest : Newest D) × (out : Option ℕ) × (old ≡ Some newest)
      × ((before : Writing D) → IsNow before old → HasNotEnded model out newest before now) × AreCalled later now run new last
  AreCalled (Reopened answered ∷ later) old run new last =
      (now : Option (Newest D)) × (next : ImportRun) × (newest : Newest D) × (old ≡ Some newest)
      × IsReopened model newest.name run next answered now × AreCalled later now next new last
  AreCalled (SetAside answered ∷ later) old run new last =
      (now : Option (Newest D)) × (next : ImportRun) × (newest : Newest D) × (old ≡ Some newest)
      × IsSetAside model bound newest.recorder.chain.serials run next answered now × AreCalled later now next new last

  -- What lies between what is recorded last into the one file and first into the other. A file that has ended has what was
  -- recorded into it, with the ends of what was open, and nothing else. In a file that was begun nothing waits, and nothing
  -- was recorded before, if no bound is set.
  abbrev pub IsNext : Change F → Writing D → Writing D → Type 0
  IsNext (Over folder) before begun =
      (left : F) × (goes_on : Bool) × HasEnded model (is_honest folder) (file_in left) goes_on before
      × Works begun × Begins model bound begun
  IsNext Aside before begun = Works begun × Begins model bound begun
  IsNext Again before begun = Works begun × (begun.name ≡ before.name)
  IsNext Stays before begun =
      (last : Progress D) × (goes_on : Bool) × EndsOpen model (holding_all before.progress) last goes_on × (begun.name ≡ before.name)
      × (model.is_honest last.now.file.disk → committed model.state begun.progress.now ≡ committed model.state last.now)

  -- The parts follow each other. Each begins as the part before was left, and the input goes on where it was: first it is
  -- said to the file how it goes on, and then its next pages are taken, with flushes between them.
  abbrev pub FollowOn : List (Part D F) → Writing D → IntakeState → Writing D → IntakeState → Type 0
  FollowOn [] before old after new = (after ≡ before) × (new ≡ old)
  FollowOn (part ∷ later) before old after new =
      (mid : IntakeState) × IsNext part.change before part.begun × GoOn part.events
      × Records (AnswersIn model) (goes_on_by part.change before part.begun ++ part.events) old mid part.done part.begun part.last
      × FollowOn later part.last mid after new

  -- What was recorded of the input into the newest file, and then into those after it.
  pub record IsRecordedOver (before : Writing D) (old : IntakeState) (now : Option (Newest D)) (new : IntakeState) : Type 0 where
    pub events : List Event
    pub done : Done
    pub mid : IntakeState
    pub last : Writing D
    pub on : GoOn events
    pub records : Records (AnswersIn model) events old mid done before last
    pub parts : List (Part D F)
    pub after : Writing D
    pub follow : FollowOn parts last mid after new
    pub reached : IsNow after now

-- ---- what that is
-- Of the input's last link, if it is open, the streams begin again in the file, under serials that it doesn't have yet, and
-- what its pages become follows. If it isn't, or in a file that has what is open of it, what its pages become goes on.
abbrev pub GivesIn : {D F : Type 0} → Change F → Writing D → Writing D → IntakeState → IntakeState → Done → Type 0
GivesIn (Over folder) before begun old new done =
    GivesOn (holds_open [] old.begun.serials) [] before.progress.now.chain.serials old new done
GivesIn Aside before begun old new done = GivesOn (holds_open [] old.begun.serials) [] before.progress.now.chain.serials old new done
GivesIn Again before begun old new done =
    GivesOn (holds_open begun.progress.now.chain.streams old.begun.serials) begun.progress.now.chain.streams begun.progress.now.chain.serials old new done
GivesIn Stays before begun old new done = Become old.changes new.changes done.more done.given

-- so it is in each part
abbrev pub GiveOn : {D F : Type 0} → List (Part D F) → Writing D → IntakeState → IntakeState → Type 0
GiveOn [] before old new = new ≡ old
GiveOn (part ∷ later) before old new =
    (mid : IntakeState) × GivesIn part.change before part.begun old mid part.done × GiveOn later part.last mid new

-- The records are steps of the history of their file, and on an honest disk it grows by exactly the commands that are kept.
pub record HasKept {D : Type 0} (model : DiskModel D) (begun last : Writing D) (done : Done) : Type 0 where
  pub same : last.name ≡ begun.name
  pub steps : HasSteps model begun.progress last.progress done.records done.replies
  pub bytes : model.is_honest begun.progress.now.file.disk → (links : Links) (waiting : List Command) → HasWaiting model.state links waiting begun.progress.now
      → committed model.state last.progress.now
      ≡ committed model.state begun.progress.now ++ bytes_of_commands links (kept_after waiting done.records done.replies)

-- so it is of the file of each part
abbrev pub HaveKept : {D F : Type 0} → DiskModel D → List (Part D F) → Type 0
HaveKept model parts = AllByRecursion (λ part. HasKept model part.begun part.last part.done) parts
