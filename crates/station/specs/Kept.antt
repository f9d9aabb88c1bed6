-- What a step leaves of connections. Ours.
use Rattle.std.specs.Prelude.{◌≡◌, ◌⊎◌, ℕ, true, Option, Some, None, List, []}
use Rattle.import_changes.specs.declared.options.Skeletons.{Skeletons}
use Rattle.serve_clients.specs.Client.{ClientState, with_line}
use Rattle.serve_clients.specs.declared.client.Stage.TheVariants.{Feeding}
use Rattle.serve_clients.specs.declared.line.Line.{Line}
use Rattle.serve_sources.specs.declared.outcome.Outcome.{Outcome}
use Rattle.serve_sources.specs.declared.password.Password.{Password}
use Rattle.slab.specs.Slab.{Slab, get}
use Rattle.station_sources.specs.declared.air.OnAir.{OnAir}
use Rattle.station.specs.Offering.{IsOffered}
use Rattle.station.specs.Parting.{HasParted}
use Rattle.station.specs.Succeeding.{is_waiting}

-- ---- one connection
-- it may have got a turn, and nothing else of it is another
abbrev pub MayTurn : ClientState → ClientState → Type 0
MayTurn old new = (line : Line) × (new ≡ with_line line old)

-- it is as it was, or it sent the stream that has left the air, and gets its last bytes
abbrev pub IsLeft : ClientState → ClientState → Type 0
IsLeft old new = (new ≡ old) ⊎ ((old.stage ≡ Feeding) × (answer : Option Outcome) × HasParted answer old new)

-- The same, and it may have got a turn since.
abbrev pub HasLeft : ClientState → ClientState → Type 0
HasLeft old new = (old.stage ≡ Feeding) × (line : Line) × (answer : Option Outcome) × HasParted answer (with_line line old) new

-- It waited for the air, and was offered it while nobody had it, by what its head says. It may have got a turn since.
abbrev pub WasTried : Option Password → ℕ → ℕ → ClientState → ClientState → Type 0
WasTried password now key old new =
    (is_waiting old.stage ≡ true) × (skeletons : Skeletons) × (serials : List ℕ) × (begun : Option OnAir) × (mid : ClientState) × (line : Line)
    × IsOffered key [] now password skeletons serials None begun old mid × (new ≡ with_line line mid)

abbrev pub IsTried : Option Password → ℕ → ℕ → ClientState → ClientState → Type 0
IsTried password now key old new = (new ≡ old) ⊎ WasTried password now key old new

abbrev pub IsKept : Option Password → ℕ → ℕ → ClientState → ClientState → Type 0
IsKept password now key old new = MayTurn old new ⊎ (HasLeft old new ⊎ WasTried password now key old new)

-- ---- all of them
-- who is there, and nobody else, is so after it
abbrev pub InPlace : (ClientState → ClientState → Type 0) → Option ClientState → Option ClientState → Type 0
InPlace relation None new = new ≡ None
InPlace relation (Some old) None = ⊥
InPlace relation (Some old) (Some new) = relation old new

abbrev pub OfEach : (ℕ → ClientState → ClientState → Type 0) → Slab ClientState → Slab ClientState → Type 0
OfEach relation old new = (key : ℕ) → InPlace (relation key) (get old key) (get new key)

abbrev pub AreTurned : Slab ClientState → Slab ClientState → Type 0
AreTurned old new = OfEach (λ key. MayTurn) old new

abbrev pub AreLeft : Slab ClientState → Slab ClientState → Type 0
AreLeft old new = OfEach (λ key. IsLeft) old new

abbrev pub AreTried : Option Password → ℕ → Slab ClientState → Slab ClientState → Type 0
AreTried password now old new = OfEach (IsTried password now) old new

-- Only the one that sent the stream which has left the air changes, and those that waited for it; others may have got a
-- turn.
abbrev pub AreKept : Option Password → ℕ → Slab ClientState → Slab ClientState → Type 0
AreKept password now old new = OfEach (IsKept password now) old new
