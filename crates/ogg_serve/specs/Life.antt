-- What the steps of a feed have run, whatever the sessions of its hub do between them. Ours.
use Rattle.std.specs.Prelude.{◌≡◌, ◌⊎◌, ◌+◌, ◌≤◌, ℕ, ⊤, Bool, true, false, Option, Some, None, Result, Ok, Err, List, [], ◌∷◌, length}
use Rattle.feed_replies.specs.declared.fault.RunFault.{RunFault}
use Rattle.feed_replies.specs.declared.fault.RunFault.TheVariants.{Feed, Write, TooMany}
use Rattle.feed_records.specs.declared.item.Record.{Record}
use Rattle.feed_records.specs.declared.item.Record.TheVariants.{Command as CommandOf, Flush}
use Rattle.feed_replies.specs.declared.reply.Kept.{Kept as KeptOf}
use Rattle.feed_replies.specs.declared.reply.Reply.{Reply}
use Rattle.feed_replies.specs.declared.reply.Reply.TheVariants.{Held, Kept, Refused}
use Rattle.feed_records.specs.declared.version.Version.{Version}
use Rattle.feed_run.specs.Run.{HasRun, Outcome, RunState, RunsTo, StopsOne, Streams, most_records, streams}
use Rattle.ogg_command.specs.declared.refusal.Refusal.{Refusal}
use Rattle.ogg_command.specs.declared.refusal.Refusal.TheVariants.{Disk}
use Rattle.file_recorder.specs.Running.{reply_of, reply_of_flush}
use Rattle.feed_replies.specs.declared.outcome.Outcome.{Outcome as Recorded}
use Rattle.serve_machine.specs.Hub.{HubState, command_step, flush_step, reopen_step}
use Rattle.ogg_serve.specs.Feeding.{FeedState, says_failed}
use Rattle.ogg_serve.specs.declared.feeding.Step.{Step}
use Rattle.ogg_serve.specs.declared.feeding.Step.TheVariants.{Done, End, Lost}

-- nothing of the feed has been read
pub record IsNewFeed {R W : Type 0} (feed : FeedState R W) : Type 0 where
  pub ended : feed.ended ≡ None
  pub version : feed.run.version ≡ None
  pub records : feed.run.records ≡ 0
  pub outcome : feed.run.outcome ≡ None

-- ---- answers
-- a machine without its sessions: records are answered by what is left
abbrev pub alone : HubState → HubState
alone hub = record hub { sessions = []; next_id = 0 }

abbrev pub waiting_of : HubState → ℕ
waiting_of hub = hub.waiting

-- the record gets this reply, and that is a step of the machine
abbrev pub GetsReply : HubState → Record → Reply → HubState → Type 0
GetsReply before (CommandOf command) reply after =
    (answer : Result Recorded Refusal) × (reply ≡ reply_of answer) × command_step before command answer after
GetsReply before Flush reply after =
    (answer : Result KeptOf Refusal) × (reply ≡ reply_of_flush answer) × flush_step before answer after

-- the same, as a runner's answer: the record has no pages of its own in the output
abbrev pub RecordAnswers : HubState → Record → Reply → List ℕ → HubState → Type 0
RecordAnswers before given reply own after = (own ≡ []) × GetsReply before given reply after

-- if the disk has failed, the file is opened again, once: something was found, or not
abbrev pub OpensAgain : Bool → HubState → HubState → Type 0
OpensAgain true before after = (found : Option (List ℕ)) × reopen_step before found after
OpensAgain false before after = after ≡ before

-- the record gets this reply, and then what follows is done
abbrev pub LiveAnswers : HubState → Record → Reply → List ℕ → HubState → Type 0
LiveAnswers before given reply own after =
    (own ≡ []) × (mid : HubState) × GetsReply before given reply mid × OpensAgain (says_failed reply) mid after

-- ---- how far a feed has come
-- these records were run, and the feed goes on
pub record HasRunSome (start now : Streams) (run : RunState) (before after : HubState) : Type 0 where
  pub records : List Record
  pub replies : List Reply
  pub has_run : HasRun LiveAnswers start now run.version records replies before after
  pub many : run.records ≡ length records
  pub few : length records ≤ most_records

-- A writer of lines failed over the record after these, or over the flush after them. Nothing followed that record.
pub record StopsLines (start now : Streams) (before after : HubState) : Type 0 where
  pub known : Option Version
  pub records : List Record
  pub replies : List Reply
  pub at : Streams
  pub mid : HubState
  pub run : HasRun LiveAnswers start at known records replies before mid
  pub few : length records ≤ most_records
  pub stop : StopsOne RecordAnswers waiting_of at now known (length records) mid after

-- why a feed has ended before its end, and what was run
abbrev pub EndsLife : RunFault → Streams → Streams → HubState → HubState → Type 0
EndsLife (Feed fault) start now before after = RunsTo LiveAnswers waiting_of (Err (Feed fault)) start now before after
EndsLife TooMany start now before after = RunsTo LiveAnswers waiting_of (Err TooMany) start now before after
EndsLife Write start now before after = StopsLines start now before after

-- the disk has failed in the last record or in the flush at the end, and the file could not be opened again
abbrev pub HasLost : Streams → Streams → RunState → HubState → HubState → Type 0
HasLost start now run before after =
    (after.has_file ≡ false)
    × (HasRunSome start now run before after ⊎ ((outcome : Outcome) × RunsTo LiveAnswers waiting_of outcome start now before after))

-- How far a feed has come, by what every further step answers, if that is known, and by how its run has ended: it goes
-- on; or its last flush was answered; or it is as the answer says.
abbrev pub HasCome : Option (Result Step RunFault) → Option Outcome → Streams → Streams → RunState → HubState → HubState → Type 0
HasCome None None start now run before after = HasRunSome start now run before after
HasCome None (Some outcome) start now run before after = RunsTo LiveAnswers waiting_of outcome start now before after
HasCome (Some (Ok (Done reply))) outcome start now run before after = ⊥
HasCome (Some (Ok End)) outcome start now run before after = RunsTo LiveAnswers waiting_of (Ok tt) start now before after
HasCome (Some (Ok (Lost fault))) outcome start now run before after = HasLost start now run before after
HasCome (Some (Err fault)) outcome start now run before after = EndsLife fault start now before after

-- the same of a feed that was another at the start
abbrev pub HasLived : {R W : Type 0} → (R → Option (List ℕ)) → (W → Option (List ℕ)) → (old new : FeedState R W) → HubState → HubState → Type 0
HasLived remaining contents old new before after =
    HasCome new.ended new.run.outcome (streams (remaining old.reader) None (contents old.replies))
    (streams (remaining new.reader) None (contents new.replies)) new.run (alone before) (alone after)

-- ---- counts
-- how many commands a refusal leaves counted: none after a fault of the disk, since the file is opened again
abbrev pub count_left : Refusal → ℕ → ℕ
count_left Disk count = 0
count_left refusal count = count

-- A reply counts the commands that were accepted since the last opening, of which there were `count` before, and are
-- `after` now.
abbrev pub Counts : ℕ → Record → Reply → ℕ → Type 0
Counts count (CommandOf command) (Held said) after = (said ≡ count + 1) × (after ≡ count + 1)
Counts count (CommandOf command) (Kept kept) after = (kept.count ≡ count + 1) × (after ≡ count + 1)
Counts count (CommandOf command) (Refused refusal) after = after ≡ count_left refusal count
Counts count Flush (Held said) after = ⊥
Counts count Flush (Kept kept) after = (kept.count ≡ count) × (after ≡ count)
Counts count Flush (Refused refusal) after = after ≡ count_left refusal count

-- so do replies in turn
abbrev pub HaveCounts : ℕ → List Record → List Reply → Type 0
HaveCounts count [] [] = ⊤
HaveCounts count (given ∷ records) (reply ∷ replies) = (after : ℕ) × Counts count given reply after × HaveCounts after records replies
HaveCounts count [] (reply ∷ replies) = ⊥
HaveCounts count (given ∷ records) [] = ⊥
