-- What a step of a recording does. Ours.
use Rattle.std.specs.Prelude.{◌≡◌, ℕ, true, Option, List}
use Rattle.std.specs.List.{list_any}
use Rattle.ogg_page.specs.Page.{Page}
use Rattle.ogg_command.specs.declared.command.Command.{Command}
use Rattle.feed_records.specs.declared.item.Record.{Record}
use Rattle.feed_replies.specs.declared.reply.Reply.{Reply}
use Rattle.import_changes.specs.Changed.{Become, ChangeState, begins}
use Rattle.import_changes.specs.declared.options.ChangeOptions.{ChangeOptions}
use Rattle.import_mend.specs.Gives.{GivesEnd, Mending, mend_at_end}
use Rattle.import_mend.specs.Importing.{mending_of}
use Rattle.import_mend.specs.Whole.{TakesPage}
use Rattle.import_record.specs.Begun.{BegunState, begun_after, begun_of}
use Rattle.import_record.specs.Running.{HasRun, StopsAt}
use Rattle.import_record.specs.declared.fault.RecordFault.{RecordFault}
use Rattle.import_record.specs.declared.fault.RecordFault.TheVariants.{Read, Memory, Write}
use Rattle.import_record.specs.declared.intake.Taken.{Taken}
use Rattle.import_record.specs.declared.reading.ImportRun.{ImportRun}

-- what the commands of the next pages depend on: how pages are mended, and under which serials streams are begun; and
-- what is kept of the link that is open
pub record IntakeState : Type 0 where
  pub mending : Mending
  pub options : ChangeOptions
  pub changes : ChangeState
  pub begun : BegunState

abbrev pub state_of : ImportRun → IntakeState
state_of run = record { mending = mending_of run.input; options = run.options; changes = run.changes; begun = begun_of run.begun }

-- a link begins with one of these commands
abbrev pub BeginsLink : List Command → Type 0
BeginsLink commands = list_any begins commands ≡ true

module _ {S : Type 0} (answers : S → Record → Reply → List ℕ → S → Type 0) where
  -- A page that begins at this offset was mended if it had to be; the commands that it completes were changed, and run.
  pub record Takes (offset : ℕ) (page : Page) (old new : IntakeState) (taken : Taken) (before after : S) (pages new_pages : Option (List ℕ)) : Type 0 where
    pub more : List Command
    pub given : List Command
    pub mended : TakesPage offset page old.mending new.mending taken.mend more
    pub options : new.options ≡ old.options
    pub changed : Become old.changes new.changes more given
    pub begun : new.begun ≡ begun_after old.begun more given
    pub ran : HasRun answers given taken.answered before after pages new_pages

  -- At the end of the input the open streams were ended, and what waited was run.
  pub record Ends (offset : ℕ) (old new : IntakeState) (taken : Taken) (before after : S) (pages new_pages : Option (List ℕ)) : Type 0 where
    pub more : List Command
    pub given : List Command
    pub ended : GivesEnd old.mending.gathered new.mending.gathered more
    pub told : taken.mend ≡ mend_at_end offset old.mending.gathered.chain
    pub options : new.options ≡ old.options
    pub changed : Become old.changes new.changes more given
    pub begun : new.begun ≡ begun_after old.begun more given
    pub ran : HasRun answers given taken.answered before after pages new_pages

  -- Why a page was not taken whole: nothing of it was run; or a prefix of its commands was, and of the next one only
  -- a part of the pages was written.
  abbrev pub StopsBy : RecordFault → S → S → Option (List ℕ) → Option (List ℕ) → Type 0
  StopsBy Read before after old new = (after ≡ before) × (new ≡ old)
  StopsBy Memory before after old new = (after ≡ before) × (new ≡ old)
  StopsBy Write before after old new = (given : List Command) × StopsAt answers given before after old new
