-- What a step over an input that is read does. Ours.
use Rattle.std.specs.Prelude.{◌≡◌, ◌⊎◌, ℕ, ◌<◌, Option, Some, None, Ok, Err, List, [], ⊤}
use Rattle.ogg_page.specs.Window.{LentAt}
use Rattle.feed_records.specs.declared.item.Record.{Record}
use Rattle.feed_records.specs.declared.item.Record.TheVariants.{Flush}
use Rattle.feed_replies.specs.declared.reply.Reply.{Reply}
use Rattle.ogg_page.specs.Reading.{page_at}
use Rattle.ogg_page.specs.declared.fault.PageFault.TheVariants.{Short}
use Rattle.import_pages.specs.Reader.{GoesOn, HasAdvanced, ReaderState}
use Rattle.import_mend.specs.Found.{PassesOne, junk_before}
use Rattle.import_mend.specs.Gives.{GivesEnd}
use Rattle.import_mend.specs.Room.{LacksMemory}
use Rattle.import_mend.specs.Whole.{TakesPage}
use Rattle.import_mend.specs.declared.mend.Mend.{Mend}
use Rattle.ogg_command.specs.declared.command.Command.{Command}
use Rattle.import_record.specs.Running.{plus}
use Rattle.import_record.specs.Steps.{BeginsLink, IntakeState, Takes, state_of}
use Rattle.import_record.specs.declared.reading.ImportRun.{ImportRun}
use Rattle.import_record.specs.declared.reading.Step.{Step}
use Rattle.import_record.specs.declared.reading.Step.TheVariants.{Flushed, PassedOver, Page, Ended}

module _ {S : Type 0} (answers : S → Record → Reply → List ℕ → S → Type 0) where
  -- the page that is lent was taken; if none is lent the input has ended
  abbrev pub HasTaken : Step → Option LentAt → IntakeState → Option (List ℕ) → S → IntakeState → Option (List ℕ) → S → Type 0
  HasTaken (Page offset junk taken) lent old pages before new new_pages after =
      (at : LentAt) × (lent ≡ Some at) × (at.0 ≡ offset) × Takes answers offset at.1 old new taken before after pages new_pages
  HasTaken (Ended junk) lent old pages before new new_pages after =
      (lent ≡ None) × (new ≡ old) × (after ≡ before) × (new_pages ≡ pages)
  HasTaken other lent old pages before new new_pages after = ⊥

  -- What waited was flushed, and nothing was read. Or no page begins at the front of the input, and bytes are passed
  -- over. Or the next page was found and taken; or there is none.
  abbrev pub Steps : Step → ReaderState → IntakeState → Option (List ℕ) → Option (List ℕ) → S
      → ReaderState → IntakeState → Option (List ℕ) → Option (List ℕ) → S → Type 0
  Steps (Flushed reply) reader old from pages before new_reader new left new_pages after =
      answers before Flush reply [] after × (new_reader ≡ reader) × (new ≡ old) × (left ≡ from) × (new_pages ≡ pages)
  Steps PassedOver reader old from pages before new_reader new left new_pages after =
      (reader.outcome ≡ None → (count : ℕ) × PassesOne reader from count new_reader left) × (new ≡ old) × (after ≡ before) × (new_pages ≡ pages)
  Steps (Page offset junk taken) reader old from pages before new_reader new left new_pages after =
      (reader.outcome ≡ None → HasAdvanced reader from (Ok tt) new_reader left)
      × HasTaken (Page offset junk taken) new_reader.lent old pages before new new_pages after
  Steps (Ended junk) reader old from pages before new_reader new left new_pages after =
      (reader.outcome ≡ None → HasAdvanced reader from (Ok tt) new_reader left)
      × HasTaken (Ended junk) new_reader.lent old pages before new new_pages after

-- ---- when a step is due
-- What waits is flushed only if something does and more bytes are needed. Bytes are passed over only while the input
-- goes on. The end is taken for the end only if the reader has found it.
abbrev pub IsDue : Step → ℕ → ReaderState → ReaderState → Type 0
IsDue (Flushed reply) held old new = (0 < held) × (page_at old.unread ≡ Err Short)
IsDue PassedOver held old new = GoesOn old.outcome
IsDue (Page offset junk taken) held old new = ⊤
IsDue (Ended junk) held old new = new.outcome ≡ Some (Ok tt)

-- ---- what is told of bytes that are of no page
-- So many were passed over before a page or the end: they are told, and none are left to tell.
abbrev pub TakesJunk : Step → ℕ → ℕ → ℕ → Type 0
TakesJunk (Page offset junk taken) end before now = (junk ≡ junk_before offset before) × (now ≡ 0)
TakesJunk (Ended junk) end before now = (junk ≡ junk_before end before) × (now ≡ 0)
TakesJunk other end before now = ⊥

-- Bytes are counted as they are passed over, up to the greatest `u64`.
abbrev pub TellsJunk : Step → ReaderState → Option (List ℕ) → ℕ → ReaderState → Option (List ℕ) → ℕ → Type 0
TellsJunk (Flushed reply) old from before new left now = now ≡ before
TellsJunk PassedOver old from before new left now =
    old.outcome ≡ None → (count : ℕ) × PassesOne old from count new left × (now ≡ plus before count)
TellsJunk (Page offset junk taken) old from before new left now = TakesJunk (Page offset junk taken) new.offset before now
TellsJunk (Ended junk) old from before new left now = TakesJunk (Ended junk) new.offset before now

-- ---- why memory is wanted
-- A growth of what is gathered was refused, or there was no room to make a page in. Or the page's commands begin a
-- link, which wants memory of its own.
abbrev pub LacksMemoryFor : ImportRun → ImportRun → ℕ → Type 0
LacksMemoryFor old new room =
    LacksMemory new.input.gatherer room
    ⊎ ((at : LentAt) × (mend : Option Mend) × (more : List Command)
    × TakesPage at.0 at.1 (state_of old).mending (state_of new).mending mend more × BeginsLink more)

-- the same of the commands that end what is open, and of those that waited
abbrev pub LacksMemoryAtEnd : ImportRun → ImportRun → ℕ → Type 0
LacksMemoryAtEnd old new room =
    LacksMemory new.input.gatherer room
    ⊎ ((more : List Command) × GivesEnd old.input.gatherer new.input.gatherer more × BeginsLink more)
