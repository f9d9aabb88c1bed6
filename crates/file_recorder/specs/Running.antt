-- How a recorder answers the records of a feed, and which steps of its file's history they are. Ours.
use Rattle.std.specs.Prelude.{◌≡◌, ◌⊎◌, ◌↔◌, ℕ, ◌+◌, ◌-◌, ◌^◌, ◌<◌, ◌≤◌, Bool, true, false, Result, Ok, Err, List, [], ◌∷◌, ◌++◌}
use Rattle.disk_model.specs.declared.disk.Disk.{Ghosts as DiskModel}
use Rattle.disk_model.specs.Image.{DiskState}
use Rattle.feed_records.specs.declared.item.Record.{Record}
use Rattle.feed_records.specs.declared.item.Record.TheVariants.{Command as CommandOf, Flush}
use Rattle.feed_replies.specs.declared.reply.Kept.{Kept as KeptOf}
use Rattle.feed_replies.specs.declared.reply.Reply.{Reply}
use Rattle.feed_replies.specs.declared.reply.Reply.TheVariants.{Held as HeldReply, Kept as KeptReply, Refused as RefusedReply}
use Rattle.link_chain.specs.ChainState.{chain_state_of}
use Rattle.link_chain.specs.Recording.{Recording}
use Rattle.link_chain.specs.declared.stream_state.StreamState.{StreamState}
use Rattle.chain_rules.specs.Decision.{decision}
use Rattle.chain_rules.specs.Encoding.{command_bytes, links_after}
use Rattle.chain_rules.specs.Recording.{add}
use Rattle.ogg_command.specs.declared.command.Command.{Command}
use Rattle.ogg_command.specs.declared.refusal.Refusal.{Refusal}
use Rattle.ogg_command.specs.declared.refusal.Refusal.TheVariants.{Failed, Memory, Disk}
use Rattle.history.specs.World.{World, Step, Flushing, Held, Kept, Flushed, Faulted, run}
use Rattle.history.specs.History.{AreSteps}
use Rattle.feed_replies.specs.declared.outcome.Outcome.{Outcome}
use Rattle.feed_replies.specs.declared.outcome.Outcome.TheVariants.{Held as WasHeld, Kept as WasKept}
use Rattle.file_recorder.specs.Recovery.{Links, Shows, Accepts}
use Rattle.file_recorder.specs.Recorder.{RecorderState, IsIn, committed, staged}
use Rattle.file_recorder.specs.Answer.{Tells, kept_by, call_of, refused_step}
use Rattle.file_recorder.specs.Small.{begins_link}

-- How far a recorder has come: what its file showed at first, what has become of the commands since then, and the
-- recorder itself. Whether it stands there in the history of its file is said by `IsIn`.
pub record Progress (D : Type 0) : Type 0 where
  pub first : Recording
  pub world : World Command
  pub now : RecorderState D

abbrev pub progress : {D : Type 0} → Recording → World Command → RecorderState D → Progress D
progress first world now = record { first = first; world = world; now = now }

-- how many commands wait
abbrev pub waiting_in : {D : Type 0} → Progress D → ℕ
waiting_in before = before.now.held

-- the length of what was kept
abbrev pub end_in : {D : Type 0} → Progress D → ℕ
end_in before = before.now.file.end

-- the streams of the last link, those of the commands that wait included
abbrev pub streams_in : {D : Type 0} → Progress D → List StreamState
streams_in before = before.now.chain.streams

-- ---- replies
-- the reply that says what became of a command
abbrev pub reply_of : Result Outcome Refusal → Reply
reply_of (Ok (WasHeld count)) = HeldReply count
reply_of (Ok (WasKept kept)) = KeptReply kept
reply_of (Err refusal) = RefusedReply refusal

-- the reply to a flush
abbrev pub reply_of_flush : Result KeptOf Refusal → Reply
reply_of_flush (Ok kept) = KeptReply kept
reply_of_flush (Err refusal) = RefusedReply refusal

-- the disk has failed: what waited is lost, and what was kept stays
abbrev pub Fails : {D : Type 0} → RecorderState D → RecorderState D → Type 0
Fails old new =
    (new.file.failed ≡ true) × (new.file.end ≡ old.file.end)
    × (new ≡ record old { file = new.file; held = 0 })

-- the command was accepted: the links grow by its own
abbrev pub Takes : {D : Type 0} → RecorderState D → Command → RecorderState D → Type 0
Takes old command new =
    (new.file.failed ≡ false)
    × ((links : Links) → old.chain ≡ chain_state_of links → new.chain ≡ chain_state_of (links_after links command))

-- What becomes of a command that no rule refuses: it waits, or is kept with all that waited; or memory is short for the
-- streams of a new link, and then nothing changes; or the disk fails.
abbrev pub Becomes : {D : Type 0} → RecorderState D → Command → Reply → RecorderState D → Type 0
Becomes old command (HeldReply count) new = Tells old (WasHeld count) new × Takes old command new
Becomes old command (KeptReply kept) new = Tells old (WasKept kept) new × Takes old command new
Becomes old command (RefusedReply Memory) new = (begins_link command ≡ true) × (new ≡ old)
Becomes old command (RefusedReply Disk) new = Fails old new
Becomes old command (RefusedReply refusal) new = ⊥

-- A command is answered: by `Failed` if the disk had failed, then by the rules, and then by what becomes of it.
abbrev pub AnsweredBy : {D : Type 0} → Bool → Result ℕ Refusal → RecorderState D → Command → Reply → RecorderState D → Type 0
AnsweredBy true decided old command reply new = (reply ≡ RefusedReply Failed) × (new ≡ old)
AnsweredBy false (Err refusal) old command reply new = (reply ≡ RefusedReply refusal) × (new ≡ old)
AnsweredBy false (Ok size) old command reply new = Becomes old command reply new

-- What becomes of a flush: all that waited is kept, and if nothing waited nothing changes; or the disk fails.
abbrev pub FlushBecomes : {D : Type 0} → RecorderState D → Reply → RecorderState D → Type 0
FlushBecomes old (KeptReply kept) new =
    (kept ≡ kept_by new) × (new.file.failed ≡ false) × (old.held ≡ 0 → new ≡ old)
    × (new ≡ record old { file = new.file; kept = old.kept + old.held; held = 0 })
FlushBecomes old (RefusedReply Disk) new = (0 < old.held) × Fails old new
FlushBecomes old reply new = ⊥

abbrev pub FlushedBy : {D : Type 0} → Bool → RecorderState D → Reply → RecorderState D → Type 0
FlushedBy true old reply new = (reply ≡ RefusedReply Failed) × (new ≡ old)
FlushedBy false old reply new = FlushBecomes old reply new

-- the record gets this reply, whether the disk is honest or not
abbrev pub Replies : {D : Type 0} → RecorderState D → Record → Reply → RecorderState D → Type 0
Replies old (CommandOf command) reply new = AnsweredBy old.file.failed (decision old.chain command) old command reply new
Replies old Flush reply new = FlushedBy old.file.failed old reply new

-- What the reply says of the bytes of an honest disk: those of a command that is held are staged after the others, a
-- reply that keeps commands commits all that is staged, and a refusal commits nothing.
abbrev pub Writes : {D : Type 0} → (D → DiskState) → RecorderState D → Record → Reply → RecorderState D → Type 0
Writes state old (CommandOf command) (HeldReply count) new =
    (committed state new ≡ committed state old) × (staged state new ≡ staged state old ++ command_bytes old.chain command)
Writes state old (CommandOf command) (KeptReply kept) new =
    (committed state new ≡ committed state old ++ (staged state old ++ command_bytes old.chain command)) × (staged state new ≡ [])
Writes state old Flush (KeptReply kept) new = (committed state new ≡ committed state old ++ staged state old) × (staged state new ≡ [])
Writes state old given reply new = committed state new ≡ committed state old

-- ---- steps
-- which step of the history a command is by its reply, if `most` commands share a commit
abbrev pub step_of : ℕ → World Command → Command → Reply → Step Command
step_of most world command (HeldReply count) = Held command
step_of most world command (KeptReply kept) = Kept command
step_of most world command (RefusedReply refusal) = refused_step refusal (call_of most world command) command

-- the steps that a record is, with the disk after it: one, but a flush after a disk fault is none
abbrev pub steps_of : {D : Type 0} → ℕ → World Command → Record → Reply → D → List (Step Command × D)
steps_of most world (CommandOf command) reply disk = (step_of most world command reply, disk) ∷ []
steps_of most world Flush (RefusedReply Failed) disk = []
steps_of most world Flush (RefusedReply refusal) disk = (Faulted Flushing, disk) ∷ []
steps_of most world Flush reply disk = (Flushed, disk) ∷ []

module _ {D : Type 0} (model : DiskModel D) where
  -- This reply answers the record. The record has no pages of its own in the output: its pages go to the disk. In
  -- each history in which the recorder stands, if its disk is honest, the record is what comes next.
  pub record Answers (before : Progress D) (given : Record) (reply : Reply) (own : List ℕ) (after : Progress D) : Type 0 where
    pub replies : Replies before.now given reply after.now
    pub none : own ≡ []
    pub writes : model.is_honest before.now.file.disk → Writes model.state before.now given reply after.now
    pub same : after.first ≡ before.first
    pub world_is : after.world ≡ run before.world (steps_of before.now.most before.world given reply after.now.file.disk)
    pub comes_next : model.is_honest before.now.file.disk → IsIn model before.first before.world before.now
        → AreSteps model Shows Accepts add before.first before.world before.now.file.disk
        (steps_of before.now.most before.world given reply after.now.file.disk)
        × IsIn model after.first after.world after.now
    pub honest : model.is_honest before.now.file.disk ↔ model.is_honest after.now.file.disk
    pub later : model.failures before.now.file.disk ≤ model.failures after.now.file.disk
    pub cause : reply ≡ RefusedReply Disk → (model.failures before.now.file.disk < model.failures after.now.file.disk)
        ⊎ (model.failures after.now.file.disk ≡ 2 ^ 64 - 1)
