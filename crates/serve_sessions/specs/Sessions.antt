-- The sessions of clients in a list, and which sessions of the machine they are. Ours.
use Rattle.std.specs.Prelude.{◌≡◌, ℕ, ◌+◌, ◌<◌, ⊤, nat_eq, if◌then◌else◌, Option, None, Some, List, [], ◌∷◌}
use Rattle.std.specs.List.{AllByRecursion, AllZip}
use Rattle.std.specs.Option.{option_map}
use Rattle.serve_sending.specs.Sending.{IsLeft}
use Rattle.serve_machine.specs.Hub.{Phase, Reading, Sending, Session as SessionOf}
use Rattle.serve_sessions.specs.declared.session.Session.{Session}
use Rattle.serve_sessions.specs.declared.session.Stage.{Stage}
use Rattle.serve_sessions.specs.declared.session.Stage.TheVariants.{Head, Response}

-- ---- in a list
-- the place of the first session with this number
abbrev pub place_in : ℕ → List Session → Option ℕ
place_in id [] = None
place_in id (session ∷ sessions) = if nat_eq session.id id then Some 0 else option_map (λ (place : ℕ). place + 1) (place_in id sessions)

-- each session has a higher number than those before it
abbrev pub IdsRise : List Session → Type 0
IdsRise [] = ⊤
IdsRise (session ∷ sessions) = AllByRecursion (λ (later : Session). session.id < later.id) sessions × IdsRise sessions

-- and all have a lower one than the next session will have
abbrev pub AreInOrder : ℕ → List Session → Type 0
AreInOrder next sessions = IdsRise sessions × AllByRecursion (λ (session : Session). session.id < next) sessions

-- ---- what they are
-- over these committed bytes, a session that keeps this is in this phase
abbrev pub IsPhase : List ℕ → Stage → Phase → Type 0
IsPhase committed (Head received) (Reading bytes) = received.items ≡ bytes
IsPhase committed (Head received) (Sending rest) = ⊥
IsPhase committed (Response sending) (Reading bytes) = ⊥
IsPhase committed (Response sending) (Sending rest) = IsLeft committed sending rest

abbrev pub IsSession : List ℕ → Session → SessionOf → Type 0
IsSession committed parts session = (parts.id ≡ session.id) × IsPhase committed parts.stage session.phase

abbrev pub AreSessions : List ℕ → List Session → List SessionOf → Type 0
AreSessions committed parts sessions = AllZip (IsSession committed) parts sessions
