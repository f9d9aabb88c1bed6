-- What comes of a connection over calls of a station, and what is written to it. Ours.
use Rattle.std.specs.Prelude.{◌≡◌, ◌≢◌, ◌⊎◌, ◌≤◌, ◌<◌, ⊤, ℕ, nat_eq, if◌then◌else◌, Some, List, [], ◌∷◌, ◌++◌, length, take}
use Rattle.disk_model.specs.declared.disk.Disk.{Ghosts as DiskModel}
use Rattle.serve_clients.specs.Client.{ClientState}
use Rattle.serve_clients.specs.declared.client.Stage.TheVariants.{Sending}
use Rattle.serve_hub.specs.Showing.{Shows}
use Rattle.serve_machine.specs.Hub.{HubState}
use Rattle.serve_machine.specs.Own.{AreNumbered}
use Rattle.serve_responses.specs.Response.{IsResponse}
use Rattle.slab.specs.Slab.{Slab, get}
use Rattle.station.specs.Passing.{session_in}
use Rattle.station_laws.specs.Calling.{After, Call, Closed, Next, Received, WriteFailed, Wrote}
use Rattle.station.specs.declared.station.Station.{Station}

-- ---- by a call
-- the bytes of the connection with this key that came, and those that were written to it
abbrev pub received_by : ℕ → Call → List ℕ
received_by key (Received other bytes now) = if nat_eq other key then bytes else []
received_by key call = []

abbrev pub written_by : ℕ → Call → List ℕ
written_by key (Wrote other bytes count now) = if nat_eq other key then take count bytes else []
written_by key call = []

-- The bytes that `next` has given for it, if it isn't told yet how many of them were written: after the call, if it was these
-- before.
abbrev pub given_after : ℕ → List ℕ → Call → List ℕ
given_after key given (Next other size now count buffer) = if nat_eq other key then take count buffer else given
given_after key given (Wrote other bytes count now) = if nat_eq other key then [] else given
given_after key given (WriteFailed other bytes trouble) = if nat_eq other key then [] else given
given_after key given call = given

-- What was given is told before more is asked for, and nothing else is told. The connection isn't closed.
abbrev pub IsTold : ℕ → List ℕ → Call → Type 0
IsTold key given (Next other size now count buffer) = other ≡ key → given ≡ []
IsTold key given (Wrote other bytes count now) = other ≡ key → (bytes ≡ given) × (count ≤ length given)
IsTold key given (WriteFailed other bytes trouble) = other ≡ key → bytes ≡ given
IsTold key given (Closed other) = other ≢ key
IsTold key given call = ⊤

-- ---- the sessions of connections
-- Each session is of one connection alone, and has a number that was given.
pub record AreApart (machine : HubState) (slots : Slab ClientState) : Type 0 where
  pub given : AreNumbered machine
  pub numbered : (key id : ℕ) → session_in (get slots key) ≡ Some id → id < machine.next_id
  pub apart : (key other id : ℕ) → session_in (get slots key) ≡ Some id → session_in (get slots other) ≡ Some id → key ≡ other

module _ {D : Type 0} where
  -- ---- by calls
  abbrev pub written : ℕ → List (After D) → List ℕ
  written key [] = []
  written key (one ∷ later) = written_by key one.call ++ written key later

  abbrev pub AreTold : ℕ → List ℕ → List (After D) → Type 0
  AreTold key given [] = ⊤
  AreTold key given (one ∷ later) = IsTold key given one.call × AreTold key (given_after key given one.call) later

  -- ---- what a session is promised
  -- The call completes the head of the connection, of which these bytes had come before: the bytes that were received then, and
  -- those that were committed.
  pub record IsHead (model : DiskModel D) (key : ℕ) (old : Station D) (one : After D) (before head committed : List ℕ) : Type 0 where
    pub bytes : List ℕ
    pub now : ℕ
    pub call : one.call ≡ Received key bytes now
    pub head_is : head ≡ before ++ bytes
    pub machine : HubState
    pub shown : Shows model old.live.hub machine
    pub committed_is : committed ≡ machine.committed
    pub client : ClientState
    pub found : get one.after.clients.slots key ≡ Some client
    pub sends : client.stage ≡ Sending

  -- one of these calls does
  abbrev pub Completes : DiskModel D → ℕ → Station D → List (After D) → List ℕ → List ℕ → List ℕ → Type 0
  Completes model key old [] before head committed = ⊥
  Completes model key old (one ∷ later) before head committed =
      IsHead model key old one before head committed
      ⊎ Completes model key one.after later (before ++ received_by key one.call) head committed

  -- The head was completed by one of the calls, if these bytes of it had come before, and has a response over what was committed
  -- then. What was written is the front of that response.
  pub record GetsResponse (model : DiskModel D) (key : ℕ) (old : Station D) (calls : List (After D)) (before : List ℕ) : Type 0 where
    pub head : List ℕ
    pub committed : List ℕ
    pub completes : Completes model key old calls before head committed
    pub response : List ℕ
    pub is_response : IsResponse committed head response
    pub left : List ℕ
    pub front : response ≡ written key calls ++ left
