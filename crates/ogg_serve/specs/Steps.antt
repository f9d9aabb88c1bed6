-- The steps of a feed that are taken while a connection is served. Ours.
use Rattle.std.specs.Prelude.{◌≡◌, ◌⊎◌, ◌+◌, ◌*◌, ◌<◌, ◌≤◌, ℕ, zero, suc, Bool, Option, Some, None, Result, Ok, Err, List, length, take}
use Rattle.std.specs.Io.KnownBytes.{Appends, Consumes}
use Rattle.disk_model.specs.declared.disk.Disk.{Ghosts as DiskModel}
use Rattle.disk_model.specs.Image.{DiskState}
use Rattle.feed_replies.specs.declared.fault.RunFault.{RunFault}
use Rattle.feed_run.specs.Run.{Outcome, streams}
use Rattle.serve_hub.specs.Parts.{HubParts}
use Rattle.serve_responses.specs.Response.{IsResponse}
use Rattle.serve_machine.specs.Hub.{HubState}
use Rattle.serve_machine.specs.Own.{KeepsFile}
use Rattle.ogg_serve.specs.Feeding.{FeedState, HasStepped, feed_state, lasting, step_at}
use Rattle.ogg_serve.specs.Pieces.{piece}
use Rattle.ogg_serve.specs.Serving.{GetsNothing, GetsWhole, MayMeet}
use Rattle.ogg_serve.specs.declared.feeding.Step.{Step}
use Rattle.ogg_serve.specs.declared.pieces.Served.{Served}
use Rattle.ogg_serve.specs.declared.pieces.Served.TheVariants.{Whole, NoHead, Cut}
use Rattle.serve_machine.specs.declared.fault.HubFault.{HubFault}

module _ {D : Type 0} (model : DiskModel D) {R W : Type 0} (remaining : R → Option (List ℕ)) (contents : W → Option (List ℕ)) where
  -- a step of a feed that had not ended
  pub record GoesOn (old new : FeedState R W) (before after : HubState) : Type 0 where
    pub was : HubParts D
    pub now : HubParts D
    pub answer : Result Step RunFault
    pub stepped : HasStepped model
        (streams (remaining old.reader) None (contents old.replies)) (streams (remaining new.reader) None (contents new.replies))
        old.run new.run (record { now = was; machine = before }) (record { now = now; machine = after }) answer
    pub ended : new.ended ≡ lasting answer

  -- what a step does to a feed, which may have ended with this answer, and to the hub
  abbrev pub StepsIf : Option (Result Step RunFault) → Option Outcome → (old new : FeedState R W) (before after : HubState) → Type 0
  StepsIf (Some answer) outcome old new before after = (new ≡ old) × (after ≡ before)
  StepsIf None (Some outcome) old new before after =
      (new ≡ feed_state old.reader old.replies old.run (Some (step_at outcome))) × (after ≡ before)
  StepsIf None None old new before after = GoesOn old new before after

  abbrev pub TakesStep : (old new : FeedState R W) (before after : HubState) → Type 0
  TakesStep old new before after = StepsIf old.ended old.run.outcome old new before after

  -- Steps were taken in turn, as many as this, and nothing else was recorded before, between and after them.
  abbrev pub TakesSteps : ℕ → (old new : FeedState R W) (before after : HubState) → Type 0
  TakesSteps zero old new before after = (new ≡ old) × KeepsFile before after
  TakesSteps (suc n) old new before after = (feed : FeedState R W) × (one : HubState) × (two : HubState)
      × TakesSteps n old feed before one × TakesStep feed new one two × KeepsFile two after

-- Bytes of this number go out in this many pieces. Each but the last is full, and a piece may be empty only if it is
-- the one piece.
abbrev pub AreIn : ℕ → ℕ → Type 0
AreIn n size = (size ≤ n * piece) × ((n ≡ 1) ⊎ (n * piece < size + piece))

-- of this many pieces the last was begun, and those before it were written: so many bytes went out
abbrev pub HaveBegun : ℕ → ℕ → Type 0
HaveBegun n size = (1 ≤ n) × (n * piece ≤ size + piece) × (size ≤ n * piece)

-- What a connection gets that ends after this many steps, with no whole response. There was none if its head wasn't
-- complete. Else there was one before each piece that was begun.
pub record StopsIn (coming left old new : Option (List ℕ)) (n : ℕ) (committed : List ℕ) : Type 0 where
  pub received : List ℕ
  pub read : Consumes coming left received
  pub written : ((n ≡ 0) × (new ≡ old))
      ⊎ ((response : List ℕ) × (size : ℕ) × IsResponse committed received response × (size ≤ length response)
      × Appends old new (take size response) × HaveBegun n size)

-- What a connection gets if it ends with this result after this many steps. There was one step before each piece of
-- a whole response. At its end the hub has a file, or none.
abbrev pub GetsIn : (coming left old new : Option (List ℕ)) → ℕ → Bool → List ℕ → Result Served HubFault → Type 0
GetsIn coming left old new n has_file committed (Ok Whole) = (got : GetsWhole coming left old new committed) × AreIn n (length got.response)
GetsIn coming left old new n has_file committed (Ok NoHead) = GetsNothing coming left old new × (n ≡ 0)
GetsIn coming left old new n has_file committed (Ok Cut) = StopsIn coming left old new n committed
GetsIn coming left old new n has_file committed (Err fault) = MayMeet has_file fault × StopsIn coming left old new n committed
