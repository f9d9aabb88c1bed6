-- What a step of a feed does while its file is served. Ours.
use Rattle.std.specs.Prelude.{◌≡◌, ℕ, ⊤, Bool, true, false, Option, Some, None, Result, Ok, Err, List}
use Rattle.disk_model.specs.declared.disk.Disk.{Ghosts as DiskModel}
use Rattle.disk_model.specs.Image.{DiskState}
use Rattle.feed_replies.specs.declared.fault.RunFault.{RunFault}
use Rattle.feed_replies.specs.declared.reply.Reply.{Reply}
use Rattle.feed_replies.specs.declared.reply.Reply.TheVariants.{Refused}
use Rattle.feed_run.specs.Run.{Streams, RunState, Outcome, Steps, EndsOne, StopsBy}
use Rattle.gate_file.specs.declared.fault.OpenFault.{OpenFault}
use Rattle.ogg_command.specs.declared.refusal.Refusal.TheVariants.{Disk}
use Rattle.serve_hub.specs.Images.{Reopens, disk_in}
use Rattle.serve_hub.specs.Running.{Progress, Answers, waiting_in}
use Rattle.serve_machine.specs.Hub.{reopen_step}
use Rattle.serve_machine.specs.Calls.{found_by}
use Rattle.ogg_serve.specs.declared.feeding.Step.{Step}
use Rattle.ogg_serve.specs.declared.feeding.Step.TheVariants.{Done, End, Lost}

-- A feed: the reader that it comes from, the writer of its replies, the run over it, and, if it has ended, what every
-- further step answers.
pub record FeedState (R W : Type 0) : Type 0 where
  pub reader : R
  pub replies : W
  pub run : RunState
  pub ended : Option (Result Step RunFault)

abbrev pub feed_state : {R W : Type 0} → R → W → RunState → Option (Result Step RunFault) → FeedState R W
feed_state reader replies run ended = record { reader = reader; replies = replies; run = run; ended = ended }

-- what a step answers from then on, if the run has ended with this outcome
abbrev pub step_at : Outcome → Result Step RunFault
step_at (Ok _) = Ok End
step_at (Err fault) = Err fault

-- the reply says that the disk has failed in this record
abbrev pub says_failed : Reply → Bool
says_failed (Refused Disk) = true
says_failed reply = false

module _ {D : Type 0} (model : DiskModel D) where
  -- the disk was given back and opened again
  pub record Reopened (result : Result ⊤ OpenFault) (before after : Progress D) : Type 0 where
    pub step : reopen_step before.machine (found_by result after.machine) after.machine
    pub disk : (old new : D) → disk_in before.now.file before.now.lost ≡ Some old → disk_in after.now.file after.now.lost ≡ Some new
        → Reopens model result after.now.file old new

  -- After the reply that the disk has failed the file is opened again. After any other reply nothing is done.
  abbrev pub FollowsFailure : Step → Progress D → Progress D → Type 0
  FollowsFailure (Done reply) before after = (says_failed reply ≡ true) × Reopened (Ok tt) before after
  FollowsFailure (Lost fault) before after = Reopened (Err fault) before after
  FollowsFailure End before after = ⊥

  abbrev pub FollowsIf : Bool → Reply → Step → Progress D → Progress D → Type 0
  FollowsIf true reply step before after = FollowsFailure step before after
  FollowsIf false reply step before after = (step ≡ Done reply) × (after ≡ before)

  abbrev pub Follows : Reply → Step → Progress D → Progress D → Type 0
  Follows reply step before after = FollowsIf (says_failed reply) reply step before after

  -- a record was run, or what waited was flushed, and then what follows was done
  pub record HasAnswered (old new : Streams) (was now : RunState) (before after : Progress D) (step : Step) : Type 0 where
    pub reply : Reply
    pub mid : Progress D
    pub ran : Steps (Answers model) waiting_in old new was now before mid reply
    pub follows : Follows reply step mid after

  -- what a step with this answer has done, if the run had not ended before
  abbrev pub HasStepped : Streams → Streams → RunState → RunState → Progress D → Progress D → Result Step RunFault → Type 0
  HasStepped old new was now before after (Ok (Done reply)) = HasAnswered old new was now before after (Done reply)
  HasStepped old new was now before after (Ok (Lost fault)) = HasAnswered old new was now before after (Lost fault)
  HasStepped old new was now before after (Ok End) = EndsOne waiting_in (Ok tt) old new was.version was.records before after
  HasStepped old new was now before after (Err fault) =
      StopsBy (Answers model) waiting_in fault old new was.version was.records before after

-- The answer stays from then on, unless it is a reply.
abbrev pub lasting : Result Step RunFault → Option (Result Step RunFault)
lasting (Ok (Done reply)) = None
lasting answer = Some answer
