-- What a connection sees of a call of its station.
use Rattle.std.proofs.Common.{◌≡◌, ◌≢◌, ◌⊎◌, ◌≤◌, ℕ, Bool, true, false, Option, Some, None, Result, Ok, List, [], ◌++◌, length, take, refl, sym, ◌∙◌, ap, subst, inl, inr, arith}
use Rattle.std.specs.Prelude.{nat_eq, ⊤}
use Rattle.std.proofs.lemmas.Bool.{cond-false}
use Rattle.std.proofs.lemmas.Bool.Decides.{eqb_tells}
use Rattle.disk_model.specs.declared.disk.Disk.{Ghosts as DiskModel}
use Rattle.serve_clients.specs.Client.{ClientState, HasLast, HasWritten, after_of, given as given_to, with_stage}
use Rattle.serve_clients.specs.Clients.{OthersStay}
use Rattle.serve_clients.specs.declared.client.After.TheVariants.{Shuts}
use Rattle.serve_clients.specs.declared.client.Stage.{Stage}
use Rattle.serve_clients.specs.declared.client.Stage.TheVariants.{Asking, Offering, Waiting, Feeding, Reading, Sending, Hearing, Ending, Closing, Cut}
use Rattle.serve_clients.specs.declared.line.Trouble.{Trouble}
use Rattle.serve_hub.specs.Parts.{HubParts}
use Rattle.serve_hub.specs.Showing.{Shows}
use Rattle.serve_machine.specs.Hub.{Connect, Given, HubState, Pull, Receive, hub_step, phase_of}
use Rattle.serve_machine.specs.declared.answers.Progress.{Progress}
use Rattle.serve_machine.specs.declared.fault.HubFault.{HubFault}
use Rattle.serve_sources.specs.declared.own.OwnResource.{OwnResource}
use Rattle.serve_sources.specs.declared.own.OwnResource.TheVariants.{Live}
use Rattle.slab.specs.Slab.{Slab, get}
use Rattle.serve_live.specs.Boundaries.{place_to_join}
use Rattle.serve_live.specs.Hearing.{IsHearing}
use Rattle.serve_live.specs.Listening.{ListenerState}
use Rattle.serve_live.specs.Live.{Moment}
use Rattle.serve_machine.specs.Sound.{Extends}
use Rattle.serve_sources.specs.Asking.{IsOwn, is_source as is_source_head}
use Rattle.station_hub.specs.LiveLaws.{tracks_same}
use Rattle.station_hub.specs.Marking.{Start}
use Rattle.station_hub.specs.Places.{PlacesState}
use Rattle.station_hub.specs.Tracking.{JoinsAt, Tracks, TracksOn}
use Rattle.station_hub.specs.Asking.{stage_after}
use Rattle.station_hub.specs.Giving.{HasHeard, HasPulled}
use Rattle.serve_sources.specs.declared.answers.TheConstants.{FULL}
use Rattle.station.specs.Asked.{IsAnswered, heard, moved}
use Rattle.station_laws.specs.Calling.{Call, Closed, Next, Received, WriteFailed, Wrote}
use Rattle.station.specs.Passing.{ArePassed, IsLike, IsPassed, Stays, expects_nothing, has_offered, is_source, session_in}
use Rattle.station_laws.specs.Written.{AreApart, IsTold, given_after, received_by, written_by}
use Rattle.station.specs.declared.station.Station.{Station}
use Rattle.station.specs.Found.{same_client}
use Rattle.station.specs.PassingLaws.{like, stays_session}
use Rattle.station_laws.proofs.Sides.{Leaves, leaves_all, still_apart}

pub none_is_some : (client : ClientState) → None ≡ Some client → ⊥
none_is_some client e = cc

pub no_session : (id : ℕ) → None ≡ Some id → ⊥
no_session id e = cc

-- ---- one connection
-- in this stage it has no session
abbrev pub needs_none : Stage → Bool
needs_none Asking = false
needs_none Reading = false
needs_none Sending = false
needs_none stage = true

pub offered_needs_none : (stage : Stage) → has_offered stage ≡ true → needs_none stage ≡ true
offered_needs_none Offering e = refl
offered_needs_none Waiting e = refl
offered_needs_none Feeding e = refl
offered_needs_none Ending e = refl
offered_needs_none Cut e = refl
offered_needs_none Asking e = cc
offered_needs_none Reading e = cc
offered_needs_none Sending e = cc
offered_needs_none Hearing e = cc
offered_needs_none Closing e = cc

-- the call neither gives it a byte, nor is it told of one; none came of it
pub record IsAside (key : ℕ) (call : Call) : Type 0 where
  pub written : written_by key call ≡ []
  pub received : received_by key call ≡ []
  pub given : (bytes : List ℕ) → given_after key bytes call ≡ bytes

-- the call says that so many of these bytes were written
pub record Tells (key : ℕ) (call : Call) (bytes : List ℕ) (count : ℕ) : Type 0 where
  pub written : written_by key call ≡ take count bytes
  pub received : received_by key call ≡ []
  pub given : (before : List ℕ) → given_after key before call ≡ []
  pub told : (before : List ℕ) → IsTold key before call → (bytes ≡ before) × (count ≤ length before)

-- its session is as it was
abbrev pub SamePhase : ClientState → HubState → HubState → Type 0
SamePhase client before after = (id : ℕ) → client.session ≡ Some id → phase_of after id ≡ phase_of before id

-- a listener joins where the places say, over this machine
abbrev pub JoinsHere : OwnResource → Bool → PlacesState → HubState → ClientState → Type 0
JoinsHere Live false places machine new =
    (start : Start) → Tracks start machine places → new.stage ≡ Hearing
    → (listener : ListenerState) × (new.listener ≡ Some listener) × JoinsAt (place_to_join places.boundaries) machine.committed listener
JoinsHere resource head places machine new = ⊤

-- how it was given its next bytes
pub data GaveBy (before after : HubState) (client : ClientState) (size count : ℕ) (buffer : List ℕ) (new : ClientState) : Type 0 where
  Again : client.unsent ≢ [] → new ≡ client → take count buffer ≡ take size client.unsent → after ≡ before → GaveBy before after client size count buffer new
  Pulled : (id : ℕ) (answer : Result Given HubFault) → client.unsent ≡ [] → client.stage ≡ Sending → client.session ≡ Some id
      → hub_step before (Pull id size answer) after → HasPulled answer client count buffer new → GaveBy before after client size count buffer new
  Heard : client.unsent ≡ [] → client.stage ≡ Hearing → after ≡ before → new.session ≡ client.session → (new.stage ≡ Hearing) ⊎ (new.stage ≡ Cut)
      → ((moment : Moment) (given : List ℕ) (listener : ListenerState) → client.listener ≡ Some listener → (hearing : IsHearing moment before.committed listener given)
      → HasHeard moment before.committed given hearing.rest size client count buffer new) → GaveBy before after client size count buffer new
  Nothing : client.unsent ≡ [] → count ≡ 0 → new ≡ client → after ≡ before → GaveBy before after client size count buffer new

pub data Seen (key : ℕ) (call : Call) (places : PlacesState) (before after : HubState) (old new : ClientState) : Type 0 where
  Kept : IsLike old new → SamePhase old before after → IsAside key call → Seen key call places before after old new
  WasCut : new.stage ≡ Cut → new.session ≡ old.session → new.unsent ≡ old.unsent → written_by key call ≡ []
      → ((bytes : List ℕ) → given_after key bytes call ≡ bytes) → Seen key call places before after old new
  Ignored : (expects_nothing old.stage ≡ true) ⊎ ((old.stage ≡ Reading) × (old.session ≡ None)) → IsLike old new → SamePhase old before after
      → written_by key call ≡ [] → ((bytes : List ℕ) → given_after key bytes call ≡ bytes) → Seen key call places before after old new
  Parted : is_source old.stage ≡ true → new.session ≡ old.session → needs_none new.stage ≡ true → Seen key call places before after old new
  Offered : (bytes : List ℕ) (now : ℕ) → call ≡ Received key bytes now → old.stage ≡ Asking → is_source_head (old.head ++ bytes) ≡ true
      → new.session ≡ old.session → needs_none new.stage ≡ true → Seen key call places before after old new
  Answered : (bytes : List ℕ) (now : ℕ) (resource : OwnResource) (head : Bool) → call ≡ Received key bytes now → old.stage ≡ Asking
      → IsOwn resource head (old.head ++ bytes) → ((room : ℕ) × IsAnswered resource head (heard room bytes old) new) → JoinsHere resource head places before new
      → after ≡ before → Seen key call places before after old new
  Declined : (bytes : List ℕ) (now : ℕ) → call ≡ Received key bytes now → old.stage ≡ Asking → ((room : ℕ) × HasLast FULL.now (heard room bytes old) new)
      → Seen key call places before after old new
  Shut : after_of old ≡ Shuts → IsLike (with_stage Closing old) new → SamePhase old before after → IsAside key call → Seen key call places before after old new
  Awaited : (bytes : List ℕ) (now : ℕ) → call ≡ Received key bytes now → old.stage ≡ Asking → new ≡ heard new.head_room bytes old → Seen key call places before after old new
  Connected : (bytes : List ℕ) (now id : ℕ) (progress : Result Progress HubFault) (between : HubState) → call ≡ Received key bytes now → old.stage ≡ Asking
      → hub_step before (Connect (Ok id)) between → hub_step between (Receive id (old.head ++ bytes) progress) after
      → new ≡ record (heard new.head_room bytes old) { stage = stage_after progress; session = Some id; head = [] } → Seen key call places before after old new
  Read : (bytes : List ℕ) (now id : ℕ) (progress : Result Progress HubFault) → call ≡ Received key bytes now → old.stage ≡ Reading → old.session ≡ Some id
      → hub_step before (Receive id bytes progress) after → new ≡ with_stage (stage_after progress) (moved old) → Seen key call places before after old new
  Gave : (size now count : ℕ) (buffer : List ℕ) (mid : ClientState) (ending : Bool) → call ≡ Next key size now count buffer
      → GaveBy before after old size count buffer mid → new ≡ given_to count ending now mid → Seen key call places before after old new
  Told : (bytes : List ℕ) (count : ℕ) (mid : ClientState) → Tells key call bytes count → HasWritten bytes count old mid → Stays mid new
      → SamePhase old before after → Seen key call places before after old new

-- ---- calls for others
pub own_key : (key : ℕ) → nat_eq key key ≡ true
own_key key = elim (eqb_tells key key) [
  | inl same ↦ same.0
  | inr apart ↦ absurd (apart.1 refl)
]

pub aside_received : (key other : ℕ) (bytes : List ℕ) (now : ℕ) → nat_eq other key ≡ false → IsAside key (Received other bytes now)
aside_received key other bytes now apart =
    record { written = refl; received = cond-false (nat_eq other key) bytes [] apart; given = λ before. refl }

pub aside_next : (key other size now count : ℕ) (buffer : List ℕ) → nat_eq other key ≡ false → IsAside key (Next other size now count buffer)
aside_next key other size now count buffer apart =
    record { written = refl; received = refl; given = λ before. cond-false (nat_eq other key) (take count buffer) before apart }

pub aside_wrote : (key other : ℕ) (bytes : List ℕ) (count now : ℕ) → nat_eq other key ≡ false → IsAside key (Wrote other bytes count now)
aside_wrote key other bytes count now apart = record {
  written = cond-false (nat_eq other key) (take count bytes) [] apart;
  received = refl;
  given = λ before. cond-false (nat_eq other key) [] before apart;
}

pub aside_write_failed : (key other : ℕ) (bytes : List ℕ) (trouble : Trouble) → nat_eq other key ≡ false → IsAside key (WriteFailed other bytes trouble)
aside_write_failed key other bytes trouble apart =
    record { written = refl; received = refl; given = λ before. cond-false (nat_eq other key) [] before apart }

module _ {D : Type 0} (model : DiskModel D) where
  -- the hub is seen as this machine then, each session is still of one connection alone, and the connection sees this of the call
  pub record Sees (key : ℕ) (call : Call) (old new : Station D) (before : HubState) : Type 0 where
    pub machine : HubState
    pub shown : Shows model new.live.hub machine
    pub grows : Extends before.committed machine.committed
    pub tracked : TracksOn before old.live.places machine new.live.places
    pub apart : AreApart machine new.clients.slots
    pub seen : (client : ClientState) → get old.clients.slots key ≡ Some client
        → (call ≡ Closed key) ⊎ ((after : ClientState) × (get new.clients.slots key ≡ Some after) × Seen key call old.live.places before machine client after)

  -- ---- a call for one connection
  pub had : (old new : Slab ClientState) (other : ℕ) → ((key : ℕ) → key ≢ other → get new key ≡ get old key)
      → ((id : ℕ) → session_in (get new other) ≡ Some id → session_in (get old other) ≡ Some id)
      → (key id : ℕ) → session_in (get new key) ≡ Some id → session_in (get old key) ≡ Some id
  had old new other others own key id is = elim (eqb_tells key other) [
    | inl same ↦
        ap (λ (k : ℕ). session_in (get old k)) same.1 ∙ own id (sym (ap (λ (k : ℕ). session_in (get new k)) same.1) ∙ is)
    | inr apart ↦ sym (ap session_in (others key apart.1)) ∙ is
  ]

  pub had_own : (old new : Slab ClientState) (other : ℕ) (client after : ClientState) → get old other ≡ Some client → get new other ≡ Some after
      → after.session ≡ client.session → (id : ℕ) → session_in (get new other) ≡ Some id → session_in (get old other) ≡ Some id
  had_own old new other client after is becomes same id of =
      ap session_in is ∙ sym same ∙ sym (ap session_in becomes) ∙ of

  -- a call for a connection, with what that sees
  pub keyed : (key other : ℕ) (call : ℕ → Call) (old new : Station D) (before after : HubState) (mine : Option ℕ) (client becomes : ClientState)
      → OthersStay other old.clients new.clients → get old.clients.slots other ≡ Some client → get new.clients.slots other ≡ Some becomes
      → Shows model new.live.hub after → TracksOn before old.live.places after new.live.places → Leaves mine before after
      → ((id : ℕ) → mine ≡ Some id → (client.session ≡ Some id) ⊎ (before.next_id ≤ id))
      → AreApart before old.clients.slots → AreApart after new.clients.slots
      → (nat_eq other key ≡ false → IsAside key (call other)) → Seen key (call key) old.live.places before after client becomes
      → Sees key (call other) old new before
  keyed key other call old new before after mine client becomes others found left shown tracks leaves whose are still aside own = record {
    machine = after;
    shown = shown;
    grows = leaves.grows;
    tracked = tracks;
    apart = still;
    seen = λ one is. elim (eqb_tells other key) [
      | inl same ↦
          let it : client ≡ one = same_client client one (sym found ∙ ap (get old.clients.slots) same.1 ∙ is) in
          inr (
            becomes,
            ap (get new.clients.slots) (sym same.1) ∙ left,
            subst (λ (k : ℕ). Seen key (call k) old.live.places before after one becomes) (sym same.1)
                (subst (λ (c : ClientState). Seen key (call key) old.live.places before after c becomes) it own),
          )
      | inr apart ↦
          inr (
            one,
            others key (λ e. apart.1 (sym e)) ∙ is,
            Kept (like one)
                (λ id of. leaves.phases id (λ e. elim (whose id e) [
                  | inl theirs ↦ apart.1 (are.apart other key id (ap session_in found ∙ theirs) (ap session_in is ∙ of))
                  | inr later ↦ absurd (omega (arith, later, are.numbered key id (ap session_in is ∙ of)))
                ]) (are.numbered key id (ap session_in is ∙ of)))
                (aside apart.0),
          )
    ];
  }

  -- the hub stays
  pub stays_shown : (old new : Station D) (before : HubState) → new.live.hub ≡ old.live.hub → Shows model old.live.hub before → Shows model new.live.hub before
  stays_shown old new before same shown = subst (λ (hub : HubParts D). Shows model hub before) (sym same) shown

  pub keyed_quiet : (key other : ℕ) (call : ℕ → Call) (old new : Station D) (before : HubState) (client becomes : ClientState)
      → OthersStay other old.clients new.clients → get old.clients.slots other ≡ Some client → get new.clients.slots other ≡ Some becomes
      → new.live.hub ≡ old.live.hub → new.live.places ≡ old.live.places → becomes.session ≡ client.session
      → Shows model old.live.hub before → AreApart before old.clients.slots
      → (nat_eq other key ≡ false → IsAside key (call other)) → Seen key (call key) old.live.places before before client becomes
      → Sees key (call other) old new before
  keyed_quiet key other call old new before client becomes others found left live places same shown are aside own =
      keyed key other call old new before before None client becomes others found left (stays_shown old new before live shown)
      (tracks_same before before old.live.places new.live.places refl places) (leaves_all None before)
      (λ id e. absurd (no_session id e)) are
      (still_apart None before before old.clients.slots new.clients.slots are (leaves_all None before)
      (had old.clients.slots new.clients.slots other others (had_own old.clients.slots new.clients.slots other client becomes found left same)))
      aside own

  -- of a key that nobody has
  pub keyed_none : (key other : ℕ) (call : Call) (old new : Station D) (before : HubState) → OthersStay other old.clients new.clients
      → get old.clients.slots other ≡ None → get new.clients.slots other ≡ None → new.live.hub ≡ old.live.hub → new.live.places ≡ old.live.places
      → Shows model old.live.hub before → AreApart before old.clients.slots
      → (nat_eq other key ≡ false → IsAside key call) → Sees key call old new before
  keyed_none key other call old new before others none left live places shown are aside = record {
    machine = before;
    shown = stays_shown old new before live shown;
    tracked = tracks_same before before old.live.places new.live.places refl places;
    grows = (leaves_all None before).grows;
    apart = still_apart None before before old.clients.slots new.clients.slots are (leaves_all None before)
        (had old.clients.slots new.clients.slots other others (λ id of. absurd (no_session id (sym (ap session_in left) ∙ of))));
    seen = λ one is. elim (eqb_tells other key) [
      | inl same ↦ absurd (none_is_some one (sym none ∙ ap (get old.clients.slots) same.1 ∙ is))
      | inr apart ↦ inr (one, others key (λ e. apart.1 (sym e)) ∙ is, Kept (like one) (λ id of. refl) (aside apart.0))
    ];
  }

  -- ---- a call for all of them
  seen_passed : (key : ℕ) (call : Call) (places : PlacesState) (before after : HubState) (client : ClientState) (found : Option ClientState) → IsPassed (Some client) found
      → SamePhase client before after → IsAside key call → (new : ClientState) × (found ≡ Some new) × Seen key call places before after client new
  seen_passed key call places before after client None passed same aside = absurd passed
  seen_passed key call places before after client (Some new) (inl (inl is)) same aside = (new, refl, Kept is same aside)
  seen_passed key call places before after client (Some new) (inl (inr is)) same aside = (new, refl, WasCut is.0 is.1 is.3 aside.written aside.given)
  seen_passed key call places before after client (Some new) (inr (source, goes)) same aside =
      (new, refl, Parted source goes.1 (offered_needs_none new.stage goes.0))

  had_passed : (old new : Option ClientState) (id : ℕ) → IsPassed old new → session_in new ≡ Some id → session_in old ≡ Some id
  had_passed None new id passed is = absurd (no_session id (sym (ap session_in passed) ∙ is))
  had_passed (Some old) None id passed is = absurd passed
  had_passed (Some old) (Some new) id (inl stays) is = sym (stays_session old new stays) ∙ is
  had_passed (Some old) (Some new) id (inr (source, goes)) is = sym goes.1 ∙ is

  pub all_passed : (key : ℕ) (call : Call) (old new : Station D) (before after : HubState) → ArePassed old.clients.slots new.clients.slots
      → Shows model new.live.hub after → TracksOn before old.live.places after new.live.places → Leaves None before after → AreApart before old.clients.slots → IsAside key call → Sees key call old new before
  all_passed key call old new before after passed shown tracks leaves are aside = record {
    machine = after;
    shown = shown;
    tracked = tracks;
    grows = leaves.grows;
    apart = still_apart None before after old.clients.slots new.clients.slots are leaves (λ one id is. had_passed (get old.clients.slots one) (get new.clients.slots one) id (passed one) is);
    seen = λ client is. inr (seen_passed key call old.live.places before after client (get new.clients.slots key)
        (subst (λ (found : Option ClientState). IsPassed found (get new.clients.slots key)) is (passed key))
        (λ id of. leaves.phases id (λ e. no_session id e) (are.numbered key id (ap session_in is ∙ of))) aside);
  }
