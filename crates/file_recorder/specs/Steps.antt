-- Which steps of its file's history records are that a recorder has answered in turn. Ours.
use Rattle.std.specs.Prelude.{◌≡◌, false, List, [], ◌∷◌, ◌++◌}
use Rattle.disk_model.specs.declared.disk.Disk.{Ghosts as DiskModel}
use Rattle.disk_model.specs.Image.{DiskState}
use Rattle.feed_records.specs.declared.item.Record.{Record}
use Rattle.feed_records.specs.declared.item.Record.TheVariants.{Command as CommandOf}
use Rattle.feed_replies.specs.declared.reply.Reply.{Reply}
use Rattle.feed_replies.specs.declared.reply.Reply.TheVariants.{Held as HeldReply, Kept as KeptReply, Refused as RefusedReply}
use Rattle.feed_runner.specs.Counting.{kept_after}
use Rattle.link_chain.specs.ChainState.{chain_state_of}
use Rattle.chain_rules.specs.Commands.{bytes_of_commands, links_behind}
use Rattle.chain_rules.specs.Recording.{add}
use Rattle.ogg_command.specs.declared.command.Command.{Command}
use Rattle.ogg_command.specs.declared.refusal.Refusal.TheVariants.{Disk}
use Rattle.history.specs.World.{Step, run, disk_after, acknowledged}
use Rattle.history.specs.History.{AreSteps}
use Rattle.history.specs.Runs.{AreCommands, accepted}
use Rattle.file_recorder.specs.Recovery.{Links, Shows, Accepts}
use Rattle.file_recorder.specs.Recorder.{RecorderState, IsIn, staged}
use Rattle.file_recorder.specs.Running.{Progress}

-- After these links, which are committed, these commands wait, and the recorder hasn't failed.
pub record HasWaiting {D : Type 0} (state : D → DiskState) (links : Links) (waiting : List Command)
    (recorder : RecorderState D) : Type 0 where
  pub good : recorder.file.failed ≡ false
  pub chain : recorder.chain ≡ chain_state_of (links_behind links waiting)
  pub waits : staged state recorder ≡ bytes_of_commands links waiting

-- the command that a reply says was accepted; a command that met a disk fault counts as accepted
abbrev pub accepted_by : Record → Reply → List Command
accepted_by (CommandOf command) (HeldReply count) = command ∷ []
accepted_by (CommandOf command) (KeptReply kept) = command ∷ []
accepted_by (CommandOf command) (RefusedReply Disk) = command ∷ []
accepted_by given reply = []

abbrev pub accepted_of : List Record → List Reply → List Command
accepted_of [] replies = []
accepted_of (given ∷ records) [] = []
accepted_of (given ∷ records) (reply ∷ replies) = accepted_by given reply ++ accepted_of records replies

module _ {D : Type 0} (model : DiskModel D) where
  -- The disk is honest, and the recorder stands there in the history of its file.
  abbrev pub Stands : Progress D → Type 0
  Stands before = model.is_honest before.now.file.disk × IsIn model before.first before.world before.now

  -- Records that were answered in turn are steps of the history: commands and flushes, which lead from the one world
  -- and disk to the other. The replies say which commands these steps accept, and which ones they acknowledge.
  pub record HasSteps (before after : Progress D) (records : List Record) (replies : List Reply) : Type 0 where
    pub steps : List (Step Command × D)
    pub are_commands : AreCommands steps
    pub same : after.first ≡ before.first
    pub leads : run before.world steps ≡ after.world
    pub ends : disk_after before.now.file.disk steps ≡ after.now.file.disk
    pub accepts : accepted steps ≡ accepted_of records replies
    pub keeps : acknowledged before.world steps ≡ kept_after before.world.held records replies
    pub are : Stands before
        → AreSteps model Shows Accepts add before.first before.world before.now.file.disk steps
    pub stands : Stands before → Stands after
