-- The calls of a station, and what each leaves of it. Ours.
use Rattle.std.specs.Prelude.{◌≡◌, ◌≢◌, ◌⊎◌, ◌≤◌, ◌<◌, ◌-◌, ⊤, ℕ, Bool, true, false, Option, Some, None, Result, Ok, Err, List, [], ◌∷◌}
use Rattle.disk_model.specs.declared.disk.Disk.{Ghosts as DiskModel}
use Rattle.serve_clients.specs.Client.{ClientState, HasLast, HasWritten, after_of, fresh, given, moved_if, with_line, with_stage}
use Rattle.serve_clients.specs.Clients.{AllStay, AreLookedAt, HasTurn, OthersStay, told_by, unread_by, unwritten_by}
use Rattle.serve_clients.specs.Line.{moved_on, taken_off}
use Rattle.serve_clients.specs.Patience.{is_refused}
use Rattle.serve_clients.specs.declared.client.After.TheVariants.{Shuts}
use Rattle.serve_clients.specs.declared.client.Stage.TheVariants.{Asking, Waiting, Feeding, Reading, Closing}
use Rattle.serve_clients.specs.declared.line.Trouble.{Trouble}
use Rattle.serve_hub.specs.Showing.{Shows}
use Rattle.serve_machine.specs.Calls.{Steps}
use Rattle.serve_machine.specs.Hub.{Receive}
use Rattle.serve_machine.specs.declared.answers.Progress.{Progress}
use Rattle.serve_machine.specs.declared.fault.HubFault.{HubFault}
use Rattle.serve_sources.specs.Answers.{refusal}
use Rattle.serve_sources.specs.declared.refused.Refused.TheVariants.{OnTheAir}
use Rattle.slab.specs.Slab.{get, slab_len}
use Rattle.station_hub.specs.Asking.{stage_after}
use Rattle.station_hub.specs.Giving.{Gives}
use Rattle.station_hub.specs.Live.{RecordsLive, StaysLive}
use Rattle.station.specs.Asked.{EndsSession}
use Rattle.station.specs.Spare.{IsAskedIn, is_spare}
use Rattle.station.specs.Ending.{is_over}
use Rattle.station.specs.Kept.{AreKept}
use Rattle.station.specs.Passing.{ArePassed, GoesOnAsSource, IsLike, expects_nothing, is_source, session_in}
use Rattle.station.specs.Turning.{IsTurnedAway, half_closed}
use Rattle.station.specs.declared.station.Station.{Station}
use Rattle.station.specs.declared.station.Unaccepted.{Unaccepted}

-- a call of a station, with its arguments and its answer
pub data Call : Type 0 where
  Accepted : (now : ℕ) (answer : Result ℕ Unaccepted) → Call
  Closed : (key : ℕ) → Call
  Received : (key : ℕ) (bytes : List ℕ) (now : ℕ) → Call
  PeerEnded : (key : ℕ) → Call
  -- into a buffer of `size` bytes, which holds these after it
  Next : (key size now count : ℕ) (buffer : List ℕ) → Call
  Wrote : (key : ℕ) (bytes : List ℕ) (count now : ℕ) → Call
  ReadFailed : (key : ℕ) (trouble : Trouble) → Call
  WriteFailed : (key : ℕ) (bytes : List ℕ) (trouble : Trouble) → Call
  Woken : (key : ℕ) (readable writable : Bool) → Call
  NextTurn : (answer : Option ℕ) → Call
  Turned : (key now : ℕ) → Call
  Looked : (now : ℕ) → Call
  Stepped : (now : ℕ) → Call
  EndedOpen : Call
  -- further bytes of the input, or its end, or what a commit took
  Aside : Call

-- a call, and the station that it left
pub record After (D : Type 0) : Type 0 where
  pub call : Call
  pub after : Station D

module _ {D : Type 0} (model : DiskModel D) where
  -- ---- what is known of each call
  pub record IsAccepted (now key : ℕ) (old new : Station D) : Type 0 where
    pub none : get old.clients.slots key ≡ None
    pub some : slab_len old.clients.slots < old.options.most → get new.clients.slots key ≡ Some (fresh now)
    -- it has a spare place then, or is turned away
    pub too_many : old.options.most ≤ slab_len old.clients.slots
        → (get new.clients.slots key ≡ Some (fresh now))
        ⊎ ((client : ClientState) × (get new.clients.slots key ≡ Some client) × IsTurnedAway now client)
    pub others : OthersStay key old.clients new.clients
    pub live : new.live ≡ old.live

  pub record IsClosed (key : ℕ) (old new : Station D) : Type 0 where
    pub gone : get new.clients.slots key ≡ None
    pub session : EndsSession model (session_in (get old.clients.slots key)) old.live.hub new.live.hub
    pub others : OthersStay key old.clients new.clients
    pub recorded : StaysLive model old.live new.live

  pub record HasReceived (key : ℕ) (bytes : List ℕ) (now : ℕ) (old new : Station D) : Type 0 where
    pub reads : (client : ClientState) (id : ℕ) → get old.clients.slots key ≡ Some client → client.stage ≡ Reading → client.session ≡ Some id
        → (progress : Result Progress HubFault)
        × Steps (Shows model) old.live.hub new.live.hub (λ machine. Receive id bytes progress)
        × (get new.clients.slots key ≡ Some (with_stage (stage_after progress) (with_line (moved_on client.line) client)))
    pub asks : (client : ClientState) → get old.clients.slots key ≡ Some client → client.stage ≡ Asking → (after : ClientState)
        × (get new.clients.slots key ≡ Some after) × IsAskedIn model (is_spare key old.spare.items) old.options.password old.live.places bytes old.live.hub new.live.hub client after
    pub offers : (client : ClientState) → get old.clients.slots key ≡ Some client → is_source client.stage ≡ true → (after : ClientState)
        × (get new.clients.slots key ≡ Some after) × GoesOnAsSource client after × (new.live.hub ≡ old.live.hub)
    -- one that waits for the air stays as it is, and one that has it has sent now
    pub waits : (client : ClientState) → get old.clients.slots key ≡ Some client → client.stage ≡ Waiting
        → get new.clients.slots key ≡ Some (with_line (moved_on client.line) client)
    pub heard : (client : ClientState) → get old.clients.slots key ≡ Some client → client.stage ≡ Feeding
        → get new.clients.slots key ≡ Some (record client { since = now; line = moved_on client.line })
    pub ignores : (client : ClientState) → get old.clients.slots key ≡ Some client → expects_nothing client.stage ≡ true → (after : ClientState)
        × (get new.clients.slots key ≡ Some after) × IsLike client after × (new.live.hub ≡ old.live.hub)
    pub unread : (client : ClientState) → get old.clients.slots key ≡ Some client → client.stage ≡ Reading → client.session ≡ None → (after : ClientState)
        × (get new.clients.slots key ≡ Some after) × IsLike client after × (new.live.hub ≡ old.live.hub)
    pub none : get old.clients.slots key ≡ None → new ≡ old
    pub others : OthersStay key old.clients new.clients
    pub recorded : StaysLive model old.live new.live

  pub record HasPeerEnded (key : ℕ) (old new : Station D) : Type 0 where
    pub ends : (client : ClientState) → get old.clients.slots key ≡ Some client → get new.clients.slots key ≡ Some (half_closed client)
    pub none : get old.clients.slots key ≡ None → new ≡ old
    pub others : OthersStay key old.clients new.clients
    pub live : new.live ≡ old.live

  pub record HasGiven (key size now count : ℕ) (buffer : List ℕ) (old new : Station D) : Type 0 where
    pub gives : (client : ClientState) → get old.clients.slots key ≡ Some client → client.stage ≢ Waiting → (after : ClientState)
        × Gives model old.live.hub new.live.hub size client count buffer after
        × (get new.clients.slots key ≡ Some (given count (is_over old.air old.ending) now after))
    pub waits : (client : ClientState) → get old.clients.slots key ≡ Some client → client.stage ≡ Waiting → (after : ClientState)
        × (get new.clients.slots key ≡ Some after) × GoesOnAsSource client after × (new.live.hub ≡ old.live.hub)
    -- It is refused once it has waited for a second, and waits on before; nothing is given for it then.
    pub refuses : (client : ClientState) → get old.clients.slots key ≡ Some client → client.stage ≡ Waiting → is_refused client now ≡ true
        → (after : ClientState) × HasLast (refusal OnTheAir) client after
        × (get new.clients.slots key ≡ Some (given count (is_over old.air old.ending) now after))
    pub goes_on : (client : ClientState) → get old.clients.slots key ≡ Some client → client.stage ≡ Waiting → is_refused client now ≡ false
        → get new.clients.slots key ≡ Some (given count (is_over old.air old.ending) now client)
    pub silent : (client : ClientState) → get old.clients.slots key ≡ Some client → client.stage ≡ Waiting → is_refused client now ≡ false
        → client.unsent ≡ [] → count ≡ 0
    pub none : get old.clients.slots key ≡ None → (get new.clients.slots key ≡ None) × (new.live.hub ≡ old.live.hub)
    pub others : OthersStay key old.clients new.clients
    pub recorded : StaysLive model old.live new.live

  pub record WasWritten (key : ℕ) (bytes : List ℕ) (count now : ℕ) (old new : Station D) : Type 0 where
    pub written : (client : ClientState) → get old.clients.slots key ≡ Some client → (after : ClientState)
        × HasWritten bytes count client after × (get new.clients.slots key ≡ Some (moved_if count now after))
    pub none : get old.clients.slots key ≡ None → new ≡ old
    pub others : OthersStay key old.clients new.clients
    pub live : new.live ≡ old.live

  pub record HasReadFailed (key : ℕ) (trouble : Trouble) (old new : Station D) : Type 0 where
    pub failed : (client : ClientState) → get old.clients.slots key ≡ Some client → get new.clients.slots key ≡ Some (unread_by trouble client)
    pub none : get old.clients.slots key ≡ None → get new.clients.slots key ≡ None
    pub others : OthersStay key old.clients new.clients
    pub live : new.live ≡ old.live

  pub record HasWriteFailed (key : ℕ) (bytes : List ℕ) (trouble : Trouble) (old new : Station D) : Type 0 where
    pub failed : (client : ClientState) → get old.clients.slots key ≡ Some client → (kept : ClientState)
        × HasWritten bytes 0 client kept × (get new.clients.slots key ≡ Some (unwritten_by trouble kept))
    pub none : get old.clients.slots key ≡ None → get new.clients.slots key ≡ None
    pub others : OthersStay key old.clients new.clients
    pub live : new.live ≡ old.live

  pub record IsWoken (key : ℕ) (readable writable : Bool) (old new : Station D) : Type 0 where
    pub turn : (client : ClientState) → get old.clients.slots key ≡ Some client → HasTurn key (told_by readable writable client) old.clients new.clients
    pub none : get old.clients.slots key ≡ None → new ≡ old
    pub others : OthersStay key old.clients new.clients
    pub rest : new ≡ record old { clients = new.clients }

  pub record HasTurnNow (key : ℕ) (old new : Station D) : Type 0 where
    pub begins : (client : ClientState) → get old.clients.slots key ≡ Some client → get new.clients.slots key ≡ Some (with_line (taken_off client.line) client)
    pub gone : get old.clients.slots key ≡ None → get new.clients.slots key ≡ None
    pub others : OthersStay key old.clients new.clients
    pub live : new.live ≡ old.live

  pub record HasTurned (key : ℕ) (old new : Station D) : Type 0 where
    pub stays : (client : ClientState) → get old.clients.slots key ≡ Some client → (after : ClientState) × (get new.clients.slots key ≡ Some after)
        × (IsLike client after ⊎ ((after_of client ≡ Shuts) × IsLike (with_stage Closing client) after))
    pub since : (client after : ClientState) → get old.clients.slots key ≡ Some client → after_of client ≢ Shuts
        → get new.clients.slots key ≡ Some after → after.since ≡ client.since
    pub none : get old.clients.slots key ≡ None → get new.clients.slots key ≡ None
    pub others : OthersStay key old.clients new.clients
    pub live : new.live ≡ old.live

  pub record HasLooked (now : ℕ) (old new : Station D) : Type 0 where
    pub early : now - old.looked < 1000 → new ≡ old
    pub late : 1000 ≤ now - old.looked → AreLookedAt now old.clients new.clients
    pub live : new.live ≡ old.live

  pub record HasStepped (now : ℕ) (old new : Station D) : Type 0 where
    pub records : RecordsLive model old.live new.live
    pub kept : AreKept old.options.password now old.clients.slots new.clients.slots
    pub passed : ArePassed old.clients.slots new.clients.slots

  -- ---- any call
  -- the call takes the old station to the new one
  abbrev pub IsCall : Call → Station D → Station D → Type 0
  IsCall (Accepted now (Ok key)) old new = IsAccepted now key old new
  IsCall (Accepted now (Err fault)) old new = AllStay old.clients new.clients × (new.live ≡ old.live)
  IsCall (Closed key) old new = IsClosed key old new
  IsCall (Received key bytes now) old new = HasReceived key bytes now old new
  IsCall (PeerEnded key) old new = HasPeerEnded key old new
  IsCall (Next key size now count buffer) old new = HasGiven key size now count buffer old new
  IsCall (Wrote key bytes count now) old new = WasWritten key bytes count now old new
  IsCall (ReadFailed key trouble) old new = HasReadFailed key trouble old new
  IsCall (WriteFailed key bytes trouble) old new = HasWriteFailed key bytes trouble old new
  IsCall (Woken key readable writable) old new = IsWoken key readable writable old new
  IsCall (NextTurn None) old new = AllStay old.clients new.clients × (new.live ≡ old.live)
  IsCall (NextTurn (Some key)) old new = HasTurnNow key old new
  IsCall (Turned key now) old new = HasTurned key old new
  IsCall (Looked now) old new = HasLooked now old new
  IsCall (Stepped now) old new = HasStepped now old new
  IsCall EndedOpen old new = RecordsLive model old.live new.live × (new.clients ≡ old.clients)
  IsCall Aside old new = (new.clients ≡ old.clients) × (new.live ≡ old.live)

  -- each takes the station that the one before it left to the next
  abbrev pub AreCalls : Station D → List (After D) → Type 0
  AreCalls old [] = ⊤
  AreCalls old (one ∷ later) = IsCall one.call old one.after × AreCalls one.after later

-- the station that these calls leave
abbrev pub left_by : {D : Type 0} → Station D → List (After D) → Station D
left_by old [] = old
left_by old (one ∷ later) = left_by one.after later
