-- A whole recording: pages that are taken, flushes of what waits, and files that were opened again, in turn. Ours.
use Rattle.std.specs.Prelude.{◌≡◌, ℕ, Bool, true, false, Option, List, [], ◌∷◌, ◌++◌, ⊤}
use Rattle.std.specs.List.{AllByRecursion}
use Rattle.link_chain.specs.declared.stream_state.StreamState.{StreamState}
use Rattle.ogg_page.specs.Window.{LentAt}
use Rattle.ogg_command.specs.declared.command.Command.{Command}
use Rattle.feed_records.specs.declared.item.Record.{Record}
use Rattle.feed_records.specs.declared.item.Record.TheVariants.{Flush}
use Rattle.feed_replies.specs.declared.reply.Reply.{Reply}
use Rattle.import_changes.specs.Changed.{Become, HasChangedBeside}
use Rattle.feed_runner.specs.Answering.{AnswersAll}
use Rattle.feed_runner.specs.Counting.{commands_in}
use Rattle.import_mend.specs.Whole.{HasMended}
use Rattle.import_mend.specs.declared.mend.Mend.{Mend}
use Rattle.ogg_page.specs.Page.{Page}
use Rattle.import_record.specs.Resuming.{Resumes, ends_of, holds_open, link_again}
use Rattle.import_record.specs.Running.{HasRun, records_of}
use Rattle.import_record.specs.Steps.{IntakeState, Takes}
use Rattle.import_record.specs.declared.answering.Answered.{Answered}
use Rattle.import_record.specs.declared.intake.Taken.{Taken}

-- What waits is flushed, or a page is taken, which stands at its offset. Or the recording goes on after its file was
-- opened again, whose last link has these streams, and which has these serials.
pub data Event : Type 0 where
  Flushing : Event
  Taking : (lent : LentAt) → Event
  Resuming : (streams : List StreamState) (serials : List ℕ) → Event

-- What was done: what was mended of each page, the commands that the mended pages hold, what they became, and the
-- records that were run, with their replies.
pub record Done : Type 0 where
  pub mends : List (Option Mend)
  pub more : List Command
  pub given : List Command
  pub records : List Record
  pub replies : List Reply

abbrev pub nothing_done : Done
nothing_done = record { mends = []; more = []; given = []; records = []; replies = [] }

abbrev pub flush_then : Reply → Done → Done
flush_then reply rest = record rest { records = Flush ∷ rest.records; replies = reply ∷ rest.replies }

abbrev pub page_then : Option Mend → List Command → List Command → List Reply → Done → Done
page_then mend more given replies rest =
    record {
      mends = mend ∷ rest.mends;
      more = more ++ rest.more;
      given = given ++ rest.given;
      records = records_of given ++ rest.records;
      replies = replies ++ rest.replies;
    }

abbrev pub resumed_then : List Command → List Reply → Done → Done
resumed_then commands replies rest =
    record rest {
      given = commands ++ rest.given;
      records = records_of commands ++ rest.records;
      replies = replies ++ rest.replies;
    }

-- the pages among what is done
abbrev pub pages_in : List Event → List LentAt
pages_in [] = []
pages_in (Flushing ∷ later) = pages_in later
pages_in (Taking lent ∷ later) = lent ∷ pages_in later
pages_in (Resuming streams serials ∷ later) = pages_in later

abbrev pub GoesOn : Event → Type 0
GoesOn Flushing = ⊤
GoesOn (Taking lent) = ⊤
GoesOn (Resuming streams serials) = ⊥

-- the file isn't opened again
abbrev pub GoOn : List Event → Type 0
GoOn events = AllByRecursion GoesOn events

-- The commands that are run after a file was opened again: ends of what was left open, then the link, if it begins
-- again, and then what the commands of further pages become. It is renumbered beside the serials of the file.
abbrev pub GivesOn : Bool → List StreamState → List ℕ → IntakeState → IntakeState → Done → Type 0
GivesOn true streams serials old new done =
    (rest : List Command) × (done.given ≡ ends_of old.begun.serials streams ++ rest) × Become old.changes new.changes done.more rest
GivesOn false streams serials old new done =
    (rest : List Command) × (done.given ≡ ends_of [] streams ++ rest)
    × HasChangedBeside serials new.changes (link_again old.begun.streams ++ done.more) rest

module _ {S : Type 0} (answers : S → Record → Reply → List ℕ → S → Type 0) where
  -- In turn a page is taken, or what waits is flushed, or commands are run with which the recording goes on.
  abbrev pub Records : List Event → IntakeState → IntakeState → Done → S → S → Type 0
  Records [] old new done before after = (new ≡ old) × (done ≡ nothing_done) × (after ≡ before)
  Records (Flushing ∷ later) old new done before after =
      (reply : Reply) × (own : List ℕ) × (mid : S) × (rest : Done)
      × answers before Flush reply own mid × Records later old new rest mid after × (done ≡ flush_then reply rest)
  Records (Taking lent ∷ later) old new done before after =
      (next : IntakeState) × (taken : Taken) × (mid : S) × (pages : Option (List ℕ)) × (new_pages : Option (List ℕ)) × (rest : Done)
      × (takes : Takes answers lent.0 lent.1 old next taken before mid pages new_pages)
      × Records later next new rest mid after
      × (done ≡ page_then taken.mend takes.more takes.given takes.ran.replies rest)
  Records (Resuming streams serials ∷ later) old new done before after =
      (next : IntakeState) × (commands : List Command) × (answered : Answered) × (mid : S) × (pages : Option (List ℕ))
      × (new_pages : Option (List ℕ)) × (rest : Done) × Resumes streams serials old next commands
      × (ran : HasRun answers commands answered before mid pages new_pages)
      × Records later next new rest mid after × (done ≡ resumed_then commands ran.replies rest)

  -- What a recording adds up to: the commands of sound links, whose streams were begun under serials that are free,
  -- were run in turn, with flushes between them.
  pub record IsRecorded (serials : List ℕ) (new : IntakeState) (done : Done) (before after : S) : Type 0 where
    pub links : List (List Page)
    pub mended : HasMended links new.mending.gathered done.more
    pub changed : HasChangedBeside serials new.changes done.more done.given
    pub bytes : List ℕ
    pub answered : AnswersAll answers before done.records done.replies bytes after
    pub commands : commands_in done.records ≡ done.given

  -- what a recording adds up to from there on
  pub record IsResumed (streams : List StreamState) (serials : List ℕ) (old new : IntakeState) (done : Done) (before after : S) : Type 0 where
    pub gives : GivesOn (holds_open streams old.begun.serials) streams serials old new done
    pub bytes : List ℕ
    pub answered : AnswersAll answers before done.records done.replies bytes after
    pub commands : commands_in done.records ≡ done.given
