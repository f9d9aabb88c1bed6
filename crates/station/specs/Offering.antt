-- What is done with a source that is offered. Ours.
use Rattle.std.specs.Prelude.{◌≡◌, ◌⊎◌, ⊤, ℕ, false, Option, Some, None, List, [], ◌++◌, length, drop, map, codes}
use Rattle.httparse.specs.Grammar.{RequestHead}
use Rattle.httparse.specs.Spans.{name_and_value}
use Rattle.serve_sources.specs.Credentials.{authorizes}
use Rattle.import_changes.specs.declared.options.Skeletons.{Skeletons}
use Rattle.serve_clients.specs.Client.{ClientState, HasLast, LacksHeadRoom, LacksRoom, cut, cut_for_memory, told, with_more, with_stage}
use Rattle.serve_clients.specs.declared.client.Stage.TheVariants.{Feeding, Offering, Waiting}
use Rattle.serve_sources.specs.Answers.{answer_after, refusal}
use Rattle.serve_sources.specs.Asking.{HasHead}
use Rattle.serve_sources.specs.Fields.{only}
use Rattle.serve_sources.specs.Offer.{IsUnread, Says}
use Rattle.serve_sources.specs.Password.{password_bytes}
use Rattle.serve_sources.specs.declared.body.Body.{Body}
use Rattle.serve_sources.specs.declared.offer.Offer.{Offer}
use Rattle.serve_sources.specs.declared.offer.Offer.TheVariants as Offered
use Rattle.serve_sources.specs.declared.outcome.Outcome.TheVariants.{Whole}
use Rattle.serve_sources.specs.declared.password.Password.{Password}
use Rattle.station_sources.specs.Air.{HoldsMore, IsShort}
use Rattle.station_sources.specs.Beginning.{HasBegun}
use Rattle.station_sources.specs.declared.air.Feeder.TheVariants.{Peer}
use Rattle.station_sources.specs.declared.air.OnAir.{OnAir}
use Rattle.station.specs.Asked.{heard, moved}
use Rattle.station.specs.Beginning.{options_for}

-- the head doesn't give the password (RFC 7617)
abbrev pub IsUnauthorized : Password → RequestHead → Type 0
IsUnauthorized password head =
    authorizes (only (codes "authorization") (map name_and_value head.fields)) (password_bytes password) ≡ false

-- the source is refused
abbrev pub IsRefusal : Offer → Type 0
IsRefusal (Offered.Refused why) = ⊤
IsRefusal _ = ⊥

-- ---- what comes of its head
-- With this password that is what comes of what has come of the head: a head has said it, or there is none.
pub record ComesOf (password : Password) (front : List ℕ) (offer : Offer) : Type 0 where
  pub says : (head : RequestHead) → HasHead front head → Says (password_bytes password) head offer
  pub each : ((head : RequestHead) × HasHead front head × Says (password_bytes password) head offer) ⊎ IsUnread front offer

-- The stream of the source begins, under serials that are none of these. What came behind its head is the first of it, or
-- there was no room for that, and that is noted.
pub record BeginsAfter (key used : ℕ) (body : Body) (skeletons : Skeletons) (serials head : List ℕ) (source : OnAir) : Type 0 where
  pub begun : OnAir
  pub begins : HasBegun (Peer key) (Some body) (options_for skeletons) serials begun
  pub feeder : source.feeder ≡ Peer key
  pub holds : HoldsMore (drop used head) begun source ⊎ IsShort (length (drop used head)) begun source

-- It is answered, and sends its stream from now on. If there is no room for the answer, it may be cut.
abbrev pub Feeds : List ℕ → ℕ → ClientState → ClientState → Type 0
Feeds answer now old new =
    (new ≡ record (told new.room answer old) { stage = Feeding; since = now; head = [] })
    ⊎ (LacksRoom answer old × (new ≡ record (cut_for_memory old) { since = now; head = [] }))

-- It gets the air, which is free. If memory for its stream is refused, it is cut.
abbrev pub GetsAir : ℕ → ℕ → Body → List ℕ → ℕ → Skeletons → List ℕ → Option OnAir → ClientState → ClientState → Type 0
GetsAir key used body answer now skeletons serials new client after =
    ((new ≡ None) × (after ≡ cut_for_memory client))
    ⊎ ((source : OnAir) × (new ≡ Some source) × BeginsAfter key used body skeletons serials client.head source × Feeds answer now client after)

-- It gets the air if that is free, and waits if it isn't.
abbrev pub TakesOrWaits : ℕ → ℕ → Body → List ℕ → ℕ → Skeletons → List ℕ → Option OnAir → Option OnAir → ClientState → ClientState → Type 0
TakesOrWaits key used body answer now skeletons serials None new client after = GetsAir key used body answer now skeletons serials new client after
TakesOrWaits key used body answer now skeletons serials (Some air) new client after =
    (new ≡ Some air) × (after ≡ record client { stage = Waiting; since = now })

-- What becomes of the source, by what comes of its head, and of the air.
abbrev pub Leads : ℕ → ℕ → Skeletons → List ℕ → Offer → Option OnAir → Option OnAir → ClientState → ClientState → Type 0
Leads key now skeletons serials Offered.More old new client after = (new ≡ old) × (after ≡ client)
Leads key now skeletons serials (Offered.Refused why) old new client after = (new ≡ old) × HasLast (refusal why) client after
Leads key now skeletons serials (Offered.Nothing used) old new client after = (new ≡ old) × HasLast (answer_after Whole) client after
Leads key now skeletons serials (Offered.Body used body answer) old new client after =
    TakesOrWaits key used body answer.now now skeletons serials old new client after

-- Further bytes of its head have come, which say what becomes of it. If there is no room for them it may be cut, and it is if
-- no connection may send a stream.
abbrev pub IsOffered : ℕ → List ℕ → ℕ → Option Password → Skeletons → List ℕ → Option OnAir → Option OnAir → ClientState → ClientState → Type 0
IsOffered key bytes now password skeletons serials old new client after =
    ((new ≡ old) × LacksHeadRoom bytes client × (after ≡ cut_for_memory client))
    ⊎ ((new ≡ old) × (password ≡ None) × (after ≡ cut (with_more after.head_room bytes client)))
    ⊎ ((secret : Password) × (offer : Offer) × (room : ℕ) × (password ≡ Some secret) × ComesOf secret (client.head ++ bytes) offer
    × Leads key now skeletons serials offer old new (with_more room bytes client) after)

-- Its head has come so far with these bytes that it is a source's: what is said of such a head says what becomes of it. If
-- memory for them is refused it is cut.
abbrev pub IsSourced : ℕ → List ℕ → ℕ → Option Password → Skeletons → List ℕ → Option OnAir → Option OnAir → ClientState → ClientState → Type 0
IsSourced key bytes now password skeletons serials old new client after =
    ((new ≡ old) × LacksHeadRoom bytes client × (after ≡ cut_for_memory (moved client)))
    ⊎ ((room : ℕ) × IsOffered key [] now password skeletons serials old new (with_stage Offering (heard room bytes client)) after)
