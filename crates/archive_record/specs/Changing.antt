-- An archive goes over to its next file, or goes on after its disk has failed. Ours.
use Rattle.std.specs.Prelude.{◌≡◌, ◌⊎◌, ⊤, ℕ, ◌-◌, ◌^◌, ◌/◌, ◌&&◌, Bool, false, true, not, nat_le, IsTrue, Option, Some, None, List, [], ◌++◌}
use Rattle.disk_model.specs.declared.disk.Disk.{Ghosts as DiskModel}
use Rattle.archive_folder.specs.Names.{Place}
use Rattle.archive_folder.specs.declared.names.FileName.{FileName}
use Rattle.archive_names.specs.Plan.{IsOver}
use Rattle.archive_names.specs.declared.plan.Limits.{Limits}
use Rattle.feed_replies.specs.declared.reply.Reply.{Reply}
use Rattle.file_recorder.specs.Ending.{AllEnded, EndRefused}
use Rattle.file_recorder.specs.Recorder.{RecorderState, committed, staged}
use Rattle.file_recorder.specs.Running.{Answers, Progress, progress, streams_in}
use Rattle.history.specs.World.{World}
use Rattle.import_record.specs.Resuming.{Resumes}
use Rattle.import_record.specs.Running.{HasRun}
use Rattle.import_record.specs.Steps.{state_of}
use Rattle.import_record.specs.declared.answering.Answered.{Answered}
use Rattle.import_record.specs.declared.reading.ImportRun.{ImportRun}
use Rattle.link_chain.specs.ChainState.{ChainState, is_open}
use Rattle.link_chain.specs.Limits.{most_links}
use Rattle.link_chain.specs.Recording.{Recording}
use Rattle.ogg_command.specs.declared.command.Command.{Command}
use Rattle.ogg_command.specs.declared.refusal.Refusal.{Refusal}
use Rattle.archive_record.specs.Filing.{HasExactly, IsNew}
use Rattle.archive_record.specs.Rotating.{with_period}
use Rattle.archive_record.specs.Spelling.{name_of}
use Rattle.archive_record.specs.Stepping.{HasRunAgain}
use Rattle.archive_record.specs.Writing.{AnswersIn, IsNow, Writing, writing}
use Rattle.archive_record.specs.declared.newest.Newest.{Newest}

-- ---- when
-- no further link is taken, and none is open
abbrev pub takes_no_link : ChainState → Bool
takes_no_link chain = nat_le most_links chain.links && not (is_open chain)

-- The next command belongs into a new file, at this time in milliseconds since 1970: there is no newest one, or it is over.
abbrev pub NextIsDue : {D : Type 0} → Limits → ℕ → Option (Newest D) → Type 0
NextIsDue limits now None = ⊤
NextIsDue limits now (Some newest) =
    IsOver (with_period limits) (name_of newest.name).begin newest.recorder.chain.length_of (now / 1000)
    ⊎ IsTrue (takes_no_link newest.recorder.chain)

-- ---- a file ends
-- every command waits from then on
abbrev pub holding_all : {D : Type 0} → Progress D → Progress D
holding_all before =
    progress before.first before.world (record before.now { most = 2 ^ 32 - 1 })

module _ {D : Type 0} (model : DiskModel D) where
  -- The streams that were open were ended in turn; the next file goes on with their link, if there was one. Or the end of
  -- one was refused, which is open still.
  abbrev pub EndsOpen : Progress D → Progress D → Bool → Type 0
  EndsOpen before after goes_on =
      ((replies : List Reply) × AllEnded streams_in (Answers model) before after replies × (goes_on ≡ is_open before.now.chain))
      ⊎ ((replies : List Reply) × (refusal : Refusal) × EndRefused streams_in (Answers model) before after replies refusal × (goes_on ≡ false))

  -- A file has ended. What was open in it was ended, and waited. All that waited was kept at once, and the file was cut to
  -- its pages: so it has, in the folder, what was committed and what waited, whatever stops, and nothing else.
  pub record HasEnded (Honest : Type 0) (file : ℕ → Place D) (goes_on : Bool) (before : Writing D) : Type 0 where
    pub last : Progress D
    pub ends : EndsOpen (holding_all before.progress) last goes_on
    pub whole : Honest → model.is_honest last.now.file.disk
        → HasExactly model file before.name.number (committed model.state last.now ++ staged model.state last.now)

  -- The disk failed before the file had ended: it stays the newest, with what was kept. Nothing was run of the input.
  pub record HasNotEnded (out : Option ℕ) (newest : Newest D) (before : Writing D) (now : Option (Newest D)) : Type 0 where
    pub goes_on : Bool
    pub last : Progress D
    pub ends : EndsOpen (holding_all before.progress) last goes_on
    pub back : RecorderState D
    pub stays : now ≡ Some (record newest { recorder = back })
    pub failed : out ≡ Some newest.name.number → back.file.failed ≡ true
    pub kept : model.is_honest last.now.file.disk → committed model.state back ≡ committed model.state last.now

  -- ---- the next one begins
  -- A file was begun. Nothing waits in it, its disk works, and nothing was recorded into it before, if no bound is set for
  -- the bytes of all files, so that none had to go for it. These commands were run in it first, and kept.
  pub record HasBegun (bound : Option ℕ) (again : List Command) (answered : Answered) (now : Option (Newest D)) : Type 0 where
    pub name : FileName
    pub recorder : RecorderState D
    pub works : (recorder.held ≡ 0) × (recorder.file.failed ≡ false)
    pub unwritten : bound ≡ None → IsNew model recorder
    pub runs : (first : Recording) (world : World Command) → HasRunAgain model again answered (writing name (progress first world recorder)) now

  -- The newest file ended, and then the next one was begun. In it the link of the input that is open began again, under
  -- serials that the file before doesn't have; nothing was taken of the input meanwhile.
  pub record GoesOver {F : Type 0} (is_honest : F → Type 0) (file_in : F → ℕ → Place D) (folder : F) (bound : Option ℕ)
      (old new : ImportRun) (answered : Answered) (before : Writing D) (now : Option (Newest D)) : Type 0 where
    pub goes_on : Bool
    -- the folder once the file had ended
    pub left : F
    pub ended : HasEnded (is_honest folder) (file_in left) goes_on before
    pub again : List Command
    pub resumes : Resumes [] before.progress.now.chain.serials (state_of old) (state_of new) again
    pub input : new.input ≡ old.input
    pub begun : HasBegun bound again answered now

  -- ---- after the disk has failed
  -- The newest file is left as it is, and the next one was begun, as when a file ends.
  pub record IsSetAside (bound : Option ℕ) (serials : List ℕ) (old new : ImportRun) (answered : Answered) (now : Option (Newest D)) : Type 0 where
    pub again : List Command
    pub resumes : Resumes [] serials (state_of old) (state_of new) again
    pub input : new.input ≡ old.input
    pub begun : HasBegun bound again answered now

  -- The file was opened again. Nothing waits in it, and its disk works. The input goes on in it, as it does in a file whose
  -- last link has these streams.
  pub record IsReopened (name : FileName) (old new : ImportRun) (answered : Answered) (now : Option (Newest D)) : Type 0 where
    pub recorder : RecorderState D
    pub works : (recorder.held ≡ 0) × (recorder.file.failed ≡ false)
    pub commands : List Command
    pub resumes : Resumes recorder.chain.streams recorder.chain.serials (state_of old) (state_of new) commands
    pub input : new.input ≡ old.input
    pub runs : (first : Recording) (world : World Command) → (after : Writing D) × IsNow after now
        × HasRun (AnswersIn model) commands answered (writing name (progress first world recorder)) after None None
