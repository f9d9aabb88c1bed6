-- A connection that has entered a station has a place there.
use Rattle.std.proofs.Common.{◌≡◌, ◌≢◌, ℕ, Option, Some, None, refl, inl, inr, sym, ◌∙◌, ap}
use Rattle.std.specs.Prelude.{IfSome}
use Rattle.slab.specs.Slab.{get}
use Rattle.serve_clients.specs.Client.{ClientState}
use Rattle.serve_clients.specs.Clients.{HasTurn}
use Rattle.serve_clients.specs.declared.clients.Clients.{Clients}
use Rattle.station.specs.Changing.{anew}
use Rattle.station.specs.declared.station.Station.{Station}
use Rattle.station_hub.specs.declared.live_hub.LiveHub.{LiveHub}
use Rattle.station_hub.specs.declared.waking.Waking.{Waking}
use Rattle.station_files.specs.Moving.{EntersAt, HasEntered, HasNotEntered, over_another}
use Rattle.station_files.specs.declared.seats.Seat.{Seat}

is_some : (found : Option ClientState) (client : ClientState) → found ≡ Some client → found ≢ None
is_some found client is none = (let both : Some client ≡ None = sym is ∙ none in cc)

pub seated : (key : ℕ) (client : ClientState) (old new : Clients) → HasTurn key client old new → get new.slots key ≢ None
seated key client old new (inl (queued, is, rest)) = is_some (get new.slots key) _ is
seated key client old new (inr (inl (queued, is, rest))) = is_some (get new.slots key) _ is
seated key client old new (inr (inr (queued, is, turns, room))) = is_some (get new.slots key) _ is

pub enters_at : {D : Type 0} (number : ℕ) (client : ClientState) (to : Option Seat) (old new : Station D)
    → IfSome to (λ seat. (seat.station ≡ number) × HasEntered client seat.key old new) → (to ≡ None → HasNotEntered old new)
    → EntersAt number client to old new
enters_at number client None old new entered none = none refl
enters_at number client (Some seat) old new entered none = entered

pub is_over : {D : Type 0} (live : LiveHub D) (old new : Station D) → new ≡ record old { live = live; reopened = None; waking = new.waking }
    → new.waking ≡ anew old.waking → new ≡ over_another live old
is_over live old new rest waking = rest ∙ ap (λ (one : Waking). record old { live = live; reopened = None; waking = one }) waking
