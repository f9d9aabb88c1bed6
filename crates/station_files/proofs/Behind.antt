-- A connection goes on behind its file.
use Rattle.std.proofs.Common.{◌≡◌, ◌<◌, ◌≤◌, ℕ, Bool, true, false, Option, Some, None, Result, Ok, Err, List, [], ◌∷◌, ◌++◌, length, get_or, refl, sym, ◌∙◌, ap, subst}
use Rattle.std.specs.Prelude.{◌&&◌, ⊤, IfSome, IsOk, OnErr, OnOk, if◌then◌else◌, is_ok, slice_get, slice_set}
use Rattle.slab.specs.Slab.{get}
use Rattle.serve_clients.specs.Client.{ClientState, is_hearing}
use Rattle.serve_live.specs.Listening.{ListenerState}
use Rattle.station.specs.Changing.{HearsOn}
use Rattle.station.specs.declared.station.Station.{Station}
use Rattle.station_hub.specs.Giving.{has_got_all, has_heard_by}
use Rattle.station_files.specs.Moving.{EntersBehind, EntersNext, EntersNextAt, GoesOnBy, HasNotEntered}
use Rattle.station_files.specs.declared.seats.Meeting.{Meeting}
use Rattle.station_files.specs.declared.seats.Next.{Next}
use Rattle.station_files.specs.declared.seats.Past.{Past}
use Rattle.station_files.specs.declared.seats.Seat.{Seat}
use Rattle.station_files.specs.declared.seats.Stations.{Stations}
use Rattle.station_files.proofs.Placed.{ends, stands}

pub pushed : {X E A : Type 0} (r : Result X E) (old new : List A) (value : A) → IsOk r
    → new ≡ (if is_ok r then old ++ value ∷ [] else old) → new ≡ old ++ value ∷ []
pushed (Ok x) old new value some is = is
pushed (Err e) old new value some is = absurd (let no : false ≡ true = some in cc)

false_true : false ≡ true → ⊥
false_true e = cc

last_of : (a b c : Bool) → (a && (b && c)) ≡ true → c ≡ true
last_of true true c e = e
last_of true false c e = absurd (false_true e)
last_of false b c e = absurd (false_true e)

listens_by : (end : ℕ) (found : Option ListenerState) → has_heard_by end found ≡ true → (heard : ListenerState) × (found ≡ Some heard)
listens_by end None e = absurd (false_true e)
listens_by end (Some heard) e = (heard, refl)

pub listens : (end : ℕ) (client : ClientState) → has_got_all end client ≡ true → (heard : ListenerState) × (client.listener ≡ Some heard)
listens end client all = listens_by end client.listener (last_of (is_hearing client.stage) _ _ all)

abbrev pub HearsOnBy : {D : Type 0} → ℕ → Station D → Station D → Meeting → Type 0
HearsOnBy key old new meeting =
    (client : ClientState) (heard : ListenerState) → get old.clients.slots key ≡ Some client → client.listener ≡ Some heard → (after : ClientState)
    × (get new.clients.slots key ≡ Some after) × HearsOn meeting.begun_end meeting.open.items meeting.begun.items heard client after

same_listener : (one other : ListenerState) → Some one ≡ Some other → one ≡ other
same_listener one other is = cc

pub goes_on : {D E : Type 0} (result : Result ⊤ E) (meeting : Option Meeting) (key : ℕ) (old new : Station D) (client : ClientState) (heard : ListenerState)
    → get old.clients.slots key ≡ Some client → client.listener ≡ Some heard → OnOk result (IfSome meeting (HearsOnBy key old new))
    → (meeting ≡ None → new ≡ old) → OnErr result ((other : ℕ) → get new.clients.slots other ≡ get old.clients.slots other)
    → (after : ClientState) × (get new.clients.slots key ≡ Some after) × OnOk result (GoesOnBy meeting client (Some after))
goes_on (Err e) meeting key old new client heard there listens on none same = (client, same key ∙ there, tt)
goes_on (Ok x) None key old new client heard there listens on none same =
    (client, ap (λ (one : Station _). get one.clients.slots key) (none refl) ∙ there, refl)
goes_on (Ok x) (Some meeting) key old new client heard there listens on none same =
    let (after, is, hears) = on client heard there listens in (
      after,
      is,
      λ other found. subst (λ (one : ListenerState). HearsOn meeting.begun_end meeting.open.items meeting.begun.items one client after)
          (same_listener heard other (sym listens ∙ found)) hears,
    )

module _ {D : Type 0} where
  pub enters_next_at : (number : ℕ) (next : Next) (client : ClientState) (to : Option Seat) (old new : Station D)
      → IfSome to (λ seat. (seat.station ≡ number) × EntersNext next client seat.key old new) → (to ≡ None → HasNotEntered old new)
      → EntersNextAt number next client to old new
  enters_next_at number next client None old new entered none = none refl
  enters_next_at number next client (Some seat) old new entered none = entered

  pub behind : (old new : Stations D) (at k : ℕ) (past : Past D) (next : Next) (client : ClientState) (to : Option Seat) (station : Station D) → k ≡ at
      → k < length old.past.items → past ≡ get_or old.past.items k past → EntersNextAt past.number next client to past.station station
      → new.past.items ≡ slice_set old.past.items k (record past { station = station }) → new ≡ record old { past = new.past }
      → EntersBehind (slice_get old.past.items at) at next client to old new
  behind old new at k past next client to station same below is enters items rest =
      subst (λ (n : ℕ). EntersBehind (slice_get old.past.items n) n next client to old new) same
      (subst (λ (found : Option (Past D)). EntersBehind found k next client to old new) (sym (stands old.past.items k past below is))
      (station, enters, items, rest))

  pub behind_all : (old new : Stations D) (at k : ℕ) (next : Next) (client : ClientState) (to : Option Seat) → k ≡ at → length old.past.items ≤ k
      → EntersNextAt 0 next client to old.newest new.newest → new ≡ record old { newest = new.newest }
      → EntersBehind (slice_get old.past.items at) at next client to old new
  behind_all old new at k next client to same end enters rest =
      subst (λ (n : ℕ). EntersBehind (slice_get old.past.items n) n next client to old new) same
      (subst (λ (found : Option (Past D)). EntersBehind found k next client to old new) (sym (ends old.past.items k end)) (enters, rest))
