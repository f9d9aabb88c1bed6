-- What is taken of the stream of a source, as import_record takes it. Ours.
use Rattle.std.specs.Prelude.{◌≡◌, ◌⊎◌, ◌<◌, ◌≤◌, ◌&&◌, ⊤, ℕ, Bool, true, false, not, nat_le, Option, Some, None, Ok, is_some, List, [], length, take, vec_capacity}
use Rattle.feed_records.specs.declared.item.Record.{Record}
use Rattle.feed_replies.specs.declared.reply.Reply.{Reply}
use Rattle.import_mend.specs.declared.mend.Mend.{Mend}
use Rattle.import_pages.specs.Reader.{HasReadCause}
use Rattle.import_record.specs.Pushing.{Comes, InputState, IsStepped, NeedsNone}
use Rattle.import_record.specs.Reading.{LacksMemoryAtEnd, LacksMemoryFor}
use Rattle.import_record.specs.Steps.{Ends, state_of}
use Rattle.import_record.specs.declared.fault.RecordFault.{RecordFault}
use Rattle.import_record.specs.declared.fault.RecordFault.TheVariants.{Memory, Read, Write}
use Rattle.import_record.specs.declared.intake.Taken.{Taken}
use Rattle.import_record.specs.declared.reading.ImportRun.{ImportRun}
use Rattle.import_record.specs.declared.reading.Step.{Step}
use Rattle.import_record.specs.declared.reading.Step.TheVariants.{Flushed, Ended, Page}

-- the stream as import_record sees it
abbrev pub input_of : ImportRun → InputState
input_of run = record { pages = run.input.pages; intake = state_of run }

-- The first so many of these bytes, at least one, came to the stream.
pub record PassesOn (bytes : List ℕ) (count : ℕ) (old new : ImportRun) : Type 0 where
  pub some : 0 < count
  pub within : count ≤ length bytes
  pub comes : Comes (take count bytes) (input_of old) (input_of new)
  pub junk : new.input.junk ≡ old.input.junk

-- All that came of a source is taken, and no more comes: whether it has ended, whether what is left of it says nothing
-- before more bytes come, and how many bytes are known to be of the stream.
abbrev pub IsOver : Bool → Bool → ℕ → Type 0
IsOver ended starved decoded = (ended ≡ true) × (starved ≡ true) × (decoded ≡ 0)

-- packets that were refused are lost
abbrev pub loses : Step → Bool
loses (Page offset junk taken) = is_some taken.answered.refused
loses step = false

-- a page of the stream was taken
abbrev pub is_page : Step → Bool
is_page (Page offset junk taken) = true
is_page step = false

-- ---- a stream that isn't Ogg
-- the first page of a stream begins before so many bytes
abbrev pub most_before : ℕ
most_before = 65536

-- So many bytes of a stream were passed over, and no page was taken before: it isn't Ogg.
abbrev pub is_foreign : Bool → ℕ → Bool
is_foreign has_page passed = not has_page && nat_le most_before passed

-- ---- why nothing more is taken of a stream
-- The end of the stream was found, and there was no memory for the commands that end what is open.
pub record LacksMemoryOnceEnded (old new : ImportRun) : Type 0 where
  pub between : ImportRun
  pub found : between.input.pages.outcome ≡ Some (Ok tt)
  pub same : state_of between ≡ state_of old
  pub lacks : LacksMemoryAtEnd between new (vec_capacity between.input.mender.room)

-- A read has failed; or there was no memory for what a page makes, or for what the end makes. What a writer of pages has
-- done is said where commands are run.
abbrev pub StopsFor : RecordFault → ImportRun → ImportRun → Type 0
StopsFor Read old new = HasReadCause old.input.pages new.input.pages
StopsFor Memory old new = LacksMemoryFor old new (vec_capacity old.input.mender.room) ⊎ LacksMemoryOnceEnded old new
StopsFor Write old new = ⊤

-- That is so, or there was no memory for bytes of the stream that had come.
abbrev pub GivesUpFor : RecordFault → Bool → ImportRun → ImportRun → Type 0
GivesUpFor fault short old new = ((fault ≡ Memory) × (short ≡ true)) ⊎ StopsFor fault old new

module _ {S : Type 0} (answers : S → Record → Reply → List ℕ → S → Type 0) where
  -- A step was taken of what had come to the stream. It needed no more bytes, or no more come. What waits is flushed
  -- only if no more come.
  pub record TakesStep (Over : Type 0) (step : Step) (old new : ImportRun) (before after : S) : Type 0 where
    pub needs : NeedsNone step old.input.pages ⊎ Over
    pub flushes : (reply : Reply) → step ≡ Flushed reply → Over
    pub stepped : IsStepped answers [] step new.input.pages.lent (input_of old) (input_of new) before after

  -- A step found the end of the stream, at this offset, and what was open of it was ended.
  pub record HasEndedBy (offset : ℕ) (junk : Option Mend) (taken : Taken) (old new : ImportRun) (before after : S) : Type 0 where
    pub between : ImportRun
    pub reached : S
    pub finds : IsStepped answers [] (Ended junk) between.input.pages.lent (input_of old) (input_of between) before reached
    pub offset_is : offset ≡ between.input.pages.offset
    pub ends : Ends answers offset (state_of between) (state_of new) taken reached after None None

  -- That is so, and it needed no more bytes, or no more come.
  pub record TakesEnd (Over : Type 0) (offset : ℕ) (junk : Option Mend) (taken : Taken) (old new : ImportRun) (before after : S) : Type 0 where
    pub needs : NeedsNone (Ended junk) old.input.pages ⊎ Over
    pub ended : HasEndedBy offset junk taken old new before after
