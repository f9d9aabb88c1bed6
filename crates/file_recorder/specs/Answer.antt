-- What the answer to a command says, and which step of a history it is. Ours.
use Rattle.std.specs.Prelude.{◌≡◌, ℕ, ◌+◌, ◌<◌, ◌≤◌, nat_lt, if◌then◌else◌, Result, Ok, Err, length}
use Rattle.feed_replies.specs.declared.reply.Kept.{Kept as KeptOf}
use Rattle.ogg_command.specs.declared.command.Command.{Command}
use Rattle.ogg_command.specs.declared.refusal.Refusal.{Refusal}
use Rattle.ogg_command.specs.declared.refusal.Refusal.TheVariants.{Disk}
use Rattle.history.specs.World.{World, Call, Staging, Committing, Flushing, Step, Held, Kept, Flushed, Refused, Faulted}
use Rattle.feed_replies.specs.declared.outcome.Outcome.{Outcome}
use Rattle.feed_replies.specs.declared.outcome.Outcome.TheVariants.{Held as WasHeld, Kept as WasKept}
use Rattle.file_recorder.specs.Recorder.{RecorderState}

-- what the recorder says of the commands up to the last one that it kept
abbrev pub kept_by : {D : Type 0} → RecorderState D → KeptOf
kept_by recorder = record { count = recorder.kept; end = recorder.file.end }

-- the command waits if others may still join its group, else the group is kept
abbrev pub Tells : {D : Type 0} → RecorderState D → Outcome → RecorderState D → Type 0
Tells old (WasHeld count) new =
    (old.held + 1 < old.most) × (count ≡ old.kept + (old.held + 1)) × (new.file.end ≡ old.file.end)
    × (new ≡ record old { file = new.file; chain = new.chain; held = old.held + 1 })
Tells old (WasKept kept) new =
    (old.most ≤ old.held + 1) × (kept ≡ kept_by new)
    × (new ≡ record old { file = new.file; chain = new.chain; kept = old.kept + (old.held + 1); held = 0 })

-- the last command of a group commits it
abbrev pub call_of : ℕ → World Command → Command → Call Command
call_of most w command = if nat_lt (length w.held + 1) most then Staging command else Committing command

abbrev pub refused_step : Refusal → Call Command → Command → Step Command
refused_step Disk call command = Faulted call
refused_step refusal call command = Refused command

abbrev pub command_step : Result Outcome Refusal → Call Command → Command → Step Command
command_step (Ok (WasHeld count)) call command = Held command
command_step (Ok (WasKept kept)) call command = Kept command
command_step (Err refusal) call command = refused_step refusal call command

abbrev pub flush_step : Result KeptOf Refusal → Step Command
flush_step (Ok kept) = Flushed
flush_step (Err refusal) = Faulted Flushing
