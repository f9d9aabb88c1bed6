-- A source that leaves the air. Ours.
use Rattle.std.specs.Prelude.{◌≡◌, ◌⊎◌, ℕ, Option, Some, None}
use Rattle.serve_clients.specs.Client.{ClientState, HasLast, with_line, with_stage}
use Rattle.serve_clients.specs.declared.client.Stage.TheVariants.{Ending, Feeding}
use Rattle.serve_clients.specs.declared.line.Line.{Line}
use Rattle.serve_sources.specs.Answers.{answer_after}
use Rattle.serve_sources.specs.declared.outcome.Outcome.{Outcome}
use Rattle.slab.specs.Slab.{Slab, get}
use Rattle.station_sources.specs.declared.air.Feeder.TheVariants.{Peer}
use Rattle.station_sources.specs.declared.air.OnAir.{OnAir}

-- Its connection gets its last bytes: the answer, if it waits for one. If there is no room for it the connection may be cut.
abbrev pub HasParted : Option Outcome → ClientState → ClientState → Type 0
HasParted None old new = new ≡ with_stage Ending old
HasParted (Some outcome) old new = HasLast (answer_after outcome) old new

-- the same of the connection among all of them, if it still sends
abbrev pub FeederParts : Option Outcome → OnAir → Slab ClientState → Slab ClientState → Type 0
FeederParts answer air old new =
    (key : ℕ) (client : ClientState) → air.feeder ≡ Peer key → get old key ≡ Some client → client.stage ≡ Feeding
    → (after : ClientState) × (get new key ≡ Some after) × HasParted answer client after

-- the same, and it may have got a turn since
abbrev pub FeederParted : Option Outcome → OnAir → Slab ClientState → Slab ClientState → Type 0
FeederParted answer air old new =
    (key : ℕ) (client : ClientState) → air.feeder ≡ Peer key → get old key ≡ Some client → client.stage ≡ Feeding
    → (after : ClientState) × (line : Line) × (get new key ≡ Some (with_line line after)) × HasParted answer client after
