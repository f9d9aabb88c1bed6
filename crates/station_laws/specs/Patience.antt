-- How long a source waits for the air, and how long it may be silent, over any calls of a station. Times are milliseconds. Ours.
use Rattle.std.specs.Prelude.{◌≡◌, ◌≤◌, ⊤, ℕ, Option, Some, None, List, [], ◌∷◌}
use Rattle.serve_clients.specs.Client.{ClientState}
use Rattle.serve_clients.specs.declared.client.Stage.{Stage}
use Rattle.serve_clients.specs.declared.client.Stage.TheVariants.{Waiting}
use Rattle.slab.specs.Slab.{get}
use Rattle.station.specs.declared.station.Station.{Station}
use Rattle.station_laws.specs.Calling.{Accepted, After, Call, Looked, Next, Received, Stepped, Turned, Wrote}

-- ---- a connection
-- it is at this stage
abbrev pub IsAt : Stage → Option ClientState → Type 0
IsAt stage None = ⊥
IsAt stage (Some client) = client.stage ≡ stage

-- the connection with this key waits for the air since then, and all that it was given was written
pub record WaitsSince {D : Type 0} (key since : ℕ) (station : Station D) : Type 0 where
  pub client : ClientState
  pub found : get station.clients.slots key ≡ Some client
  pub waits : client.stage ≡ Waiting
  pub since_is : client.since ≡ since
  pub told : client.unsent ≡ []

-- ---- over calls
-- the connection with this key is at this stage after each of them
abbrev pub StaysAt : {D : Type 0} → Stage → ℕ → List (After D) → Type 0
StaysAt stage key [] = ⊤
StaysAt stage key (one ∷ later) = IsAt stage (get one.after.clients.slots key) × StaysAt stage key later

-- a call is made then, or later
abbrev pub IsNotBefore : ℕ → Call → Type 0
IsNotBefore since (Accepted now answer) = since ≤ now
IsNotBefore since (Received key bytes now) = since ≤ now
IsNotBefore since (Next key size now count buffer) = since ≤ now
IsNotBefore since (Wrote key bytes count now) = since ≤ now
IsNotBefore since (Turned key now) = since ≤ now
IsNotBefore since (Looked now) = since ≤ now
IsNotBefore since (Stepped now) = since ≤ now
IsNotBefore since call = ⊤

abbrev pub AreNotBefore : {D : Type 0} → ℕ → List (After D) → Type 0
AreNotBefore since [] = ⊤
AreNotBefore since (one ∷ later) = IsNotBefore since one.call × AreNotBefore since later
