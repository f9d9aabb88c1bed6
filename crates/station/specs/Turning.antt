-- What is done in a turn. Ours.
use Rattle.std.specs.Prelude.{◌≡◌, ◌⊎◌, ◌&&◌, ⊤, ℕ, Bool, true, false, not, Option}
use Rattle.serve_clients.specs.Client.{ClientState, HasLast, after_of, fresh, with_line, with_stage}
use Rattle.serve_clients.specs.declared.client.After.TheVariants.{Shuts}
use Rattle.serve_clients.specs.declared.client.Stage.{Stage}
use Rattle.serve_clients.specs.Line.{read_failed_by}
use Rattle.serve_clients.specs.declared.client.Stage.TheVariants.{Asking, Offering, Waiting, Feeding, Reading, Sending, Hearing, Ending, Closing, Cut}
use Rattle.serve_clients.specs.declared.line.Trouble.TheVariants.{Blocked}
use Rattle.station_sources.specs.Air.{IsFedBy}
use Rattle.station_sources.specs.declared.air.Feeder.TheVariants.{Peer}
use Rattle.station_sources.specs.declared.air.OnAir.{OnAir}
use Rattle.serve_sources.specs.declared.answers.TheConstants.{FULL}
use Rattle.station_hub.specs.Giving.{has_got_all}

-- What a connection sends is read in its turn, or passed over if nothing more is expected of it. Only a source has to wait:
-- for the air, and on the air until what came before is taken. Nothing is read of a connection that is cut.
abbrev pub TakesIn : Stage → Type 0 → Type 0
TakesIn Feeding fed = fed
TakesIn Waiting fed = ⊥
TakesIn Cut fed = ⊥
TakesIn stage fed = ⊤

-- bytes of the connection with this key are to be read
abbrev pub IsRead : ℕ → ClientState → Option OnAir → Type 0
IsRead key client air = (client.line.readable ≡ true) × TakesIn client.stage (IsFedBy (Peer key) air)

-- A listener that has got all that is committed, up to this end, waits for more, unless it is to be told that no more comes.
abbrev pub waits_for_more : ℕ → Bool → ClientState → Bool
waits_for_more end over client = not over && has_got_all end client

-- Another turn follows: bytes went over the connection and it doesn't wait for more, it has got its last one, or bytes of it
-- are to be read.
abbrev pub GoesOn : ℕ → Bool → ClientState → Option OnAir → Type 0
GoesOn key waiting client air =
    ((client.line.moved ≡ true) × (waiting ≡ false)) ⊎ ((after_of client ≡ Shuts) ⊎ IsRead key client air)

-- A connection too many is told so, and gets nothing more.
abbrev pub IsTurnedAway : ℕ → ClientState → Type 0
IsTurnedAway now client = HasLast FULL.now (fresh now) client

-- ---- a peer that sends no more
-- Whoever hasn't sent its whole head is gone, and so is who listens, or was told the end. The others get what they are still
-- to get, and a source's stream has come to its end.
abbrev pub stage_at_half_close : Stage → Stage
stage_at_half_close Asking = Cut
stage_at_half_close Offering = Cut
stage_at_half_close Reading = Cut
stage_at_half_close Hearing = Cut
stage_at_half_close Closing = Cut
stage_at_half_close Waiting = Waiting
stage_at_half_close Feeding = Feeding
stage_at_half_close Sending = Sending
stage_at_half_close Ending = Ending
stage_at_half_close Cut = Cut

-- nothing more is read of it
abbrev pub half_closed : ClientState → ClientState
half_closed client = with_stage (stage_at_half_close client.stage) (with_line (read_failed_by Blocked client.line) client)
