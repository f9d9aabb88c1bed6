-- What a run over a feed has read and written, record by record, at its end, and when it was stopped. Ours.
use Rattle.std.specs.Prelude.{◌≡◌, ◌≢◌, ◌⊎◌, ◌≤◌, ◌<◌, ◌+◌, ℕ, Option, Some, None, Result, Ok, Err, List, [], ◌∷◌, ◌++◌, length, Bool, true, false}
use Rattle.std.specs.List.{flat_map, AllByRecursion}
use Rattle.std.specs.Io.KnownBytes.{Appends, Consumes}
use Rattle.ogg_page.specs.Output.{WritesPart}
use Rattle.feed_records.specs.declared.item.Record.{Record}
use Rattle.feed_records.specs.declared.item.Record.TheVariants.{Flush}
use Rattle.feed_records.specs.declared.version.Version.{Version}
use Rattle.feed_replies.specs.declared.fault.FeedFault.{FeedFault}
use Rattle.feed_replies.specs.declared.fault.FeedFault.TheVariants.{Read, Memory}
use Rattle.feed_replies.specs.declared.fault.RunFault.{RunFault}
use Rattle.feed_replies.specs.declared.fault.RunFault.TheVariants.{Feed, Write, TooMany}
use Rattle.feed_replies.specs.declared.reply.Reply.{Reply}
use Rattle.feed_replies.specs.declared.tally.Tally.{Tally}
use Rattle.feed_codec.specs.Feed.{FeedState, GivesEnd, GivesRecord, HasFault}
use Rattle.feed_records.specs.Record.{HasRecord, opening, record_of}
use Rattle.feed_replies.specs.Reply.{reply_line}
use Rattle.feed_runner.specs.declared.counting.Counts.{Counts}
use Rattle.feed_runner.specs.Answering.{AnswersAll}
use Rattle.feed_runner.specs.Counting.{counts_with, IsTally}
use Rattle.feed_runner.specs.Telling.{Stays, TellsPart}

-- how many records a run takes
abbrev pub most_records : ℕ
most_records = 4294967295

-- What the reader of the feed, the writer of pages and the taker of replies show of their bytes; whether what was
-- written or told may wait with them; and whether the taker of replies wants no further record.
pub record Streams : Type 0 where
  pub feed : Option (List ℕ)
  pub pages : Option (List ℕ)
  pub lines : Option (List ℕ)
  pub waits : Bool
  pub enough : Bool

-- the same of writers, with which nothing waits and which end no run
abbrev pub streams : Option (List ℕ) → Option (List ℕ) → Option (List ℕ) → Streams
streams feed pages lines = record { feed = feed; pages = pages; lines = lines; waits = false; enough = false }

abbrev pub streams_to : Option (List ℕ) → Option (List ℕ) → Option (List ℕ) → Bool → Bool → Streams
streams_to feed pages lines waits enough = record { feed = feed; pages = pages; lines = lines; waits = waits; enough = enough }

-- how a run has ended: at the feed's end, or by a fault
abbrev pub Outcome : Type 0
Outcome = Result (Unit {0}) RunFault

-- A run: the version of its feed, once it is known; how many records it has taken; the counts of them; and how it has
-- ended, if it has.
pub record RunState : Type 0 where
  pub version : Option Version
  pub records : ℕ
  pub counts : Counts
  pub outcome : Option Outcome

-- what a run answers if it has ended with this outcome
abbrev pub answer_at : Outcome → Result (Option Reply) RunFault
answer_at (Ok _) = Ok None
answer_at (Err fault) = Err fault

-- how many steps a run has taken: one for each record, and one for its end
abbrev pub steps_at : Option Outcome → ℕ → ℕ
steps_at None records = records
steps_at (Some outcome) records = records + 1

abbrev pub steps_of : RunState → ℕ
steps_of run = steps_at run.outcome run.records

-- ---- one record
-- the feed ends; or, if no further record is wanted, nothing was read for one
abbrev pub EndsFeed : Bool → Option Version → Option (List ℕ) → Option (List ℕ) → Type 0
EndsFeed false known old new = GivesEnd known old new
EndsFeed true known old new = GivesEnd known old new ⊎ (new ≡ old)

-- Why no further record is run after the first `count`. The feed ends, or no further record is wanted; or the feed has
-- a fault, which is that of its bytes if the reader didn't fail and memory wasn't refused; or the run has taken as many
-- as it takes, and there is one more.
abbrev pub Leaves : Outcome → Option Version → ℕ → Bool → Option (List ℕ) → Option (List ℕ) → Type 0
Leaves (Ok _) known count enough old new = EndsFeed enough known old new
Leaves (Err (Feed fault)) known count enough old new = fault ≢ Read → fault ≢ Memory → HasFault known old fault
Leaves (Err TooMany) known count enough old new =
    (count ≡ most_records) × (later : Option Version) × (next : Record) × GivesRecord known later old new next
Leaves (Err Write) known count enough old new = ⊥

-- What comes next in a feed: a record that was read; its end, or that no further record is wanted; or a fault, which is
-- that of its bytes if the reader didn't fail and memory wasn't refused.
abbrev pub Comes : Result (Option Record) FeedFault → FeedState → FeedState → Bool → Option (List ℕ) → Option (List ℕ) → Type 0
Comes (Ok (Some given)) was now enough old new = (now.outcome ≡ None) × GivesRecord was.version now.version old new given
Comes (Ok None) was now enough old new = EndsFeed enough was.version old new
Comes (Err fault) was now enough old new = fault ≢ Read → fault ≢ Memory → HasFault was.version old fault

-- A writer failed over a record with these pages and this reply. If it failed at the pages, not all of them are
-- written, the record hasn't been run, and nothing of its line is written. If it failed at the line, all of the pages
-- are written, the line isn't, and the record has been run.
abbrev pub StopsAt : {S : Type 0} → Bool → Option (List ℕ) → Option (List ℕ) → Option (List ℕ) → Option (List ℕ)
    → List ℕ → Reply → S → S → S → Type 0
StopsAt waits pages new_pages lines new_lines own reply before reached after =
    (WritesPart pages new_pages own × Stays waits lines new_lines × (after ≡ before))
    ⊎ (Appends pages new_pages own × TellsPart waits lines new_lines (reply_line reply) × (after ≡ reached))

-- a run that has taken this record too
abbrev pub with_record : RunState → Option Version → Record → Reply → RunState
with_record was known given reply =
    record { version = known; records = was.records + 1; counts = counts_with was.counts given reply; outcome = None }

module _ {S : Type 0} (answers : S → Record → Reply → List ℕ → S → Type 0) where
  -- One record was read, and run: its pages were written, and then its reply's line.
  pub record RunsOne (old new : Streams) (was now : RunState) (before after : S) (reply : Reply) : Type 0 where
    pub given : Record
    pub known : Option Version
    pub own : List ℕ
    pub few : was.records < most_records
    pub read : GivesRecord was.version known old.feed new.feed given
    pub answers_it : answers before given reply own after
    pub pages : Appends old.pages new.pages own
    pub lines : Appends old.lines new.lines (reply_line reply)
    pub now_is : now ≡ with_record was known given reply

-- `held`: how many commands wait in a state
module _ {S : Type 0} (held : S → ℕ) where
  -- the record that is answered next: one that was read; or a flush, if no further record is run and something waits
  abbrev pub Asks : Option Version → ℕ → Bool → Option (List ℕ) → Option (List ℕ) → S → Record → Type 0
  Asks known count enough old new before given =
      ((count < most_records) × (later : Option Version) × GivesRecord known later old new given)
      ⊎ ((given ≡ Flush) × (0 < held before) × (outcome : Outcome) × Leaves outcome known count enough old new)

  -- No further record is run, nothing waits, and nothing was written.
  pub record EndsOne (outcome : Outcome) (old new : Streams) (known : Option Version) (count : ℕ) (before after : S) : Type 0 where
    pub leaves : Leaves outcome known count new.enough old.feed new.feed
    pub none : held before ≡ 0
    pub same : after ≡ before
    pub pages : Stays new.waits old.pages new.pages
    pub lines : Stays new.waits old.lines new.lines

module _ {S : Type 0} (answers : S → Record → Reply → List ℕ → S → Type 0) (held : S → ℕ) where
  -- No further record is run. What waited was flushed, and the reply's line was written.
  pub record ClosesOne (old new : Streams) (was now : RunState) (before after : S) (reply : Reply) : Type 0 where
    pub outcome : Outcome
    pub leaves : Leaves outcome was.version was.records new.enough old.feed new.feed
    pub waits : 0 < held before
    pub answers_it : answers before Flush reply [] after
    pub pages : Stays new.waits old.pages new.pages
    pub lines : Appends old.lines new.lines (reply_line reply)
    pub counted : now.counts ≡ counts_with was.counts Flush reply
    pub ended : now.outcome ≡ Some outcome

  -- what a step that returns a reply has done
  abbrev pub Steps : Streams → Streams → RunState → RunState → S → S → Reply → Type 0
  Steps old new was now before after reply =
      RunsOne answers old new was now before after reply ⊎ ClosesOne old new was now before after reply

  -- One record was read, or a flush is to come, and a writer failed over it.
  pub record StopsOne (old new : Streams) (known : Option Version) (count : ℕ) (before after : S) : Type 0 where
    pub given : Record
    pub reply : Reply
    pub own : List ℕ
    pub reached : S
    pub asked : Asks held known count new.enough old.feed new.feed before given
    pub answers_it : answers before given reply own reached
    pub written : StopsAt new.waits old.pages new.pages old.lines new.lines own reply before reached after

  -- why one step returned no reply
  abbrev pub StopsBy : RunFault → Streams → Streams → Option Version → ℕ → S → S → Type 0
  StopsBy (Feed fault) old new known count before after = EndsOne held (Err (Feed fault)) old new known count before after
  StopsBy TooMany old new known count before after = EndsOne held (Err TooMany) old new known count before after
  StopsBy Write old new known count before after = StopsOne old new known count before after

-- ---- a whole run
-- These records were read, of a feed of this version; none yet, if the version isn't known.
abbrev pub HasRead : Option Version → List Record → Option (List ℕ) → Option (List ℕ) → Type 0
HasRead None records start now = (records ≡ []) × Consumes start now []
HasRead (Some version) records start now =
    AllByRecursion (HasRecord version) records × Consumes start now (opening version ++ flat_map (record_of version) records)

module _ {S : Type 0} (answers : S → Record → Reply → List ℕ → S → Type 0) where
  -- From the start, these records were read and run: their pages were written, and the lines of their replies.
  pub record HasRun (start now : Streams) (known : Option Version) (records : List Record) (replies : List Reply) (before after : S) : Type 0 where
    pub bytes : List ℕ
    pub answers_all : AnswersAll answers before records replies bytes after
    pub read : HasRead known records start.feed now.feed
    pub pages : Appends start.pages now.pages bytes
    pub lines : Appends start.lines now.lines (flat_map reply_line replies)

module _ {S : Type 0} (answers : S → Record → Reply → List ℕ → S → Type 0) (held : S → ℕ) where
  -- After the last record: if something waits, a flush, and the line of its reply was written; else nothing.
  abbrev pub IsClosed : Streams → Streams → S → S → List Record → List Reply → Type 0
  IsClosed at now before after closing last =
      ((held before ≡ 0) × (closing ≡ []) × (last ≡ []) × (after ≡ before) × Stays now.waits at.lines now.lines)
      ⊎ ((0 < held before) × (reply : Reply) × (closing ≡ Flush ∷ []) × (last ≡ reply ∷ [])
      × answers before Flush reply [] after × Appends at.lines now.lines (reply_line reply))

  -- Records were run until this outcome, and what waited was flushed.
  pub record RunsTo (outcome : Outcome) (start now : Streams) (before after : S) : Type 0 where
    pub known : Option Version
    pub records : List Record
    pub replies : List Reply
    pub closing : List Record
    pub last : List Reply
    pub at : Streams
    pub mid : S
    pub run : HasRun answers start at known records replies before mid
    pub few : length records ≤ most_records
    pub leaves : Leaves outcome known (length records) now.enough at.feed now.feed
    pub closed : IsClosed at now mid after closing last
    pub pages : Stays now.waits at.pages now.pages

  -- The feed was run to its end, and the tally is the result.
  pub record RunsWhole (start now : Streams) (before after : S) (end : ℕ) (tally : Tally) : Type 0 where
    pub run : RunsTo (Ok tt) start now before after
    pub tally_is : IsTally tally (run.records ++ run.closing) (run.replies ++ run.last) end

  -- Records were run, and a writer failed over the next one, or over the flush after them.
  pub record StopsWriting (start now : Streams) (before after : S) : Type 0 where
    pub known : Option Version
    pub records : List Record
    pub replies : List Reply
    pub at : Streams
    pub mid : S
    pub run : HasRun answers start at known records replies before mid
    pub few : length records ≤ most_records
    pub stop : StopsOne answers held at now known (length records) mid after

  -- why a run over a feed ended before the feed's end, and what was run
  abbrev pub EndsBy : RunFault → Streams → Streams → S → S → Type 0
  EndsBy (Feed fault) start now before after = RunsTo (Err (Feed fault)) start now before after
  EndsBy TooMany start now before after = RunsTo (Err TooMany) start now before after
  EndsBy Write start now before after = StopsWriting start now before after
