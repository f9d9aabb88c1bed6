-- A source that gets the air, and one that goes on in a file that was opened again. Ours.
use Rattle.std.specs.Prelude.{◌≡◌, ℕ, Option, None, List, [], drop, false}
use Rattle.feed_records.specs.declared.item.Record.{Record}
use Rattle.feed_replies.specs.declared.reply.Reply.{Reply}
use Rattle.import_changes.specs.Changed.{HasChangedBeside}
use Rattle.import_changes.specs.declared.options.ChangeOptions.{ChangeOptions}
use Rattle.import_mend.specs.Whole.{IsStart}
use Rattle.import_record.specs.Begun.{none_begun}
use Rattle.import_record.specs.Resuming.{Resumes}
use Rattle.import_record.specs.Running.{HasRun}
use Rattle.import_record.specs.Steps.{IntakeState, state_of}
use Rattle.import_record.specs.declared.answering.Answered.{Answered}
use Rattle.import_record.specs.declared.reading.ImportRun.{ImportRun}
use Rattle.link_chain.specs.declared.stream_state.StreamState.{StreamState}
use Rattle.ogg_command.specs.declared.command.Command.{Command}
use Rattle.serve_sources.specs.declared.body.Body.{Body}
use Rattle.station_sources.specs.Air.{look_of}
use Rattle.station_sources.specs.Faring.{look}
use Rattle.station_sources.specs.declared.air.Feeder.{Feeder}
use Rattle.station_sources.specs.declared.air.OnAir.{OnAir}

-- No page was taken, and no stream was begun. Its streams are begun as these options ask, and if they are renumbered, none
-- gets one of these serials.
pub record IsFresh (options : ChangeOptions) (serials : List ℕ) (intake : IntakeState) : Type 0 where
  pub mending : IsStart intake.mending
  pub changes : HasChangedBeside serials intake.changes [] []
  pub asked : (intake.options ≡ options) × (intake.changes.options ≡ options)
  pub begun : intake.begun ≡ none_begun

-- a stream of which no byte was read
pub record IsNew (options : ChangeOptions) (serials : List ℕ) (run : ImportRun) : Type 0 where
  pub unread : (run.input.pages.unread ≡ []) × (run.input.pages.offset ≡ 0) × (run.input.pages.outcome ≡ None)
  pub fresh : IsFresh options serials (state_of run)

-- No byte of the source has come. This one sends it, and its bytes have this framing, if they have one.
pub record HasBegun (sender : Feeder) (framing : Option Body) (options : ChangeOptions) (serials : List ℕ) (air : OnAir) : Type 0 where
  pub feeder : air.feeder ≡ sender
  pub looks : look_of air ≡ look framing 0 0 false false false
  pub none : drop air.at air.pending.items ≡ []
  pub noted : (air.short ≡ false) × (air.lost ≡ false)
  pub searched : (air.has_page ≡ false) × (air.foreign ≡ false)
  pub is_new : IsNew options serials air.import

-- Its stream goes on in a file whose last link has these streams, and all of whose streams have these serials, once these
-- commands are run there. Nothing of what came is taken meanwhile.
pub record GoesOnIn (streams : List StreamState) (serials : List ℕ) (commands : List Command) (old new : OnAir) : Type 0 where
  pub resumes : Resumes streams serials (state_of old.import) (state_of new.import) commands
  pub pages : new.import.input.pages ≡ old.import.input.pages
  pub same : new ≡ record old { import = new.import }

module _ {S : Type 0} (answers : S → Record → Reply → List ℕ → S → Type 0) where
  -- The commands with which its stream goes on in such a file were run.
  pub record HasResumed (streams : List StreamState) (serials : List ℕ) (old new : OnAir) (before after : S) : Type 0 where
    pub commands : List Command
    pub answered : Answered
    pub goes_on : GoesOnIn streams serials commands old new
    pub ran : HasRun answers commands answered before after None None
