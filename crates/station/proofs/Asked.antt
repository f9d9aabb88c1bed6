-- What becomes of a connection whose bytes have come.
use Rattle.std.proofs.Common.{◌≡◌, ◌≢◌, ◌⊎◌, ℕ, Bool, true, false, is_some, Option, Some, None, List, [], ◌++◌, refl, sym, ◌∙◌, ap, subst, inr, inl}
use Rattle.disk_model.specs.declared.disk.Disk.{Ghosts as DiskModel}
use Rattle.import_changes.specs.declared.options.Skeletons.{Skeletons}
use Rattle.serve_clients.specs.Client.{ClientState, LacksHeadRoom, cut_for_memory, with_more, with_stage}
use Rattle.serve_clients.specs.declared.client.Stage.TheVariants.{Feeding, Offering}
use Rattle.serve_hub.specs.Listening.{KeepsMachine}
use Rattle.serve_hub.specs.Parts.{HubParts}
use Rattle.serve_hub.specs.Showing.{Shows}
use Rattle.serve_sources.specs.Asking.{IsOther, is_source as asks_as_source}
use Rattle.serve_sources.specs.declared.asking.Asks.{Asks as AsksOf}
use Rattle.serve_sources.specs.declared.asking.Asks.TheVariants as Asks
use Rattle.serve_sources.specs.declared.own.OwnResource.{OwnResource}
use Rattle.serve_sources.specs.declared.password.Password.{Password}
use Rattle.slab.specs.Slab.{Slab, get, with_value}
use Rattle.station_hub.specs.Asking.{HasAsked, HasNoSession, IsConnected}
use Rattle.station_hub.specs.Places.{PlacesState}
use Rattle.station_sources.specs.declared.air.Feeder.{Feeder}
use Rattle.station_sources.specs.declared.air.OnAir.{OnAir}
use Rattle.station.specs.Asked.{Awaits, Connects, GetsOwn, HasCause, IsAnswered, Joins, Offers, moved}
use Rattle.station.specs.Beginning.{BeginsBeside, run_in}
use Rattle.station.specs.Found.{placed}
use Rattle.station.specs.Keeping.{OthersAirStays}
use Rattle.station.specs.Offering.{IsOffered, IsSourced}
use Rattle.station.specs.Passing.{GoesOnAsSource, OffersOn, has_offered, is_source}
use Rattle.station.proofs.Waited.{found_offered}

-- ---- a password
true_false : true ≡ false → ⊥
true_false e = cc

pub is_set : (password : Option Password) → is_some password ≡ true → password ≢ None
is_set password set none = true_false (sym set ∙ ap (λ (one : Option Password). is_some one) none)

pub is_unset : (password : Option Password) → is_some password ≡ false → password ≡ None
is_unset None none = refl
is_unset (Some password) none = absurd (true_false none)

-- ---- the air
pub air_stays : (feeder : Feeder) (old new : Option OnAir) → new ≡ old → OthersAirStays feeder old new
air_stays feeder None new same = tt
air_stays feeder (Some air) new same = λ apart. same

pub begins_none : (serials : List ℕ) (skeletons : Skeletons) (air : Option OnAir) → air ≡ None → BeginsBeside serials skeletons (run_in air)
begins_none serials skeletons None none = tt
begins_none serials skeletons (Some air) none = absurd (some_none air none)
  where
    some_none : (one : OnAir) → Some one ≡ None → ⊥
    some_none one e = cc

-- ---- a source that goes on
pub feeds_on : (slots new : Slab ClientState) (key : ℕ) (client other : ClientState) → get slots key ≡ Some client → new ≡ with_value slots key other
    → other.stage ≡ Feeding → other.session ≡ client.session → (after : ClientState) × (get new key ≡ Some after) × GoesOnAsSource client after
feeds_on slots new key client other is becomes stage session =
    (other, ap (λ (one : Slab ClientState). get one key) becomes ∙ placed slots key client other is, (ap has_offered stage, session))

-- ---- a source that is known by its head
more_is_cut : (bytes : List ℕ) (one after : ClientState) → asks_as_source (one.head ++ bytes) ≡ true
    → (asks_as_source (one.head ++ bytes) ≡ true → (Asks.More ≡ Asks.Source) ⊎ ((Asks.More ≡ Asks.More) × LacksHeadRoom bytes one × (after ≡ cut_for_memory one)))
    → LacksHeadRoom bytes one × (after ≡ cut_for_memory one)
more_is_cut bytes one after source known = elim (known source) [
  | inl other ↦ absurd (cc_more other)
  | inr (same, lacks, is) ↦ (lacks, is)
]
  where
    cc_more : Asks.More ≡ Asks.Source → ⊥
    cc_more e = cc

-- More of it doesn't have to come, but if memory was refused.
pub more_of_source : (bytes : List ℕ) (client one after : ClientState) → one ≡ moved client → asks_as_source (client.head ++ bytes) ≡ true
    → (asks_as_source (one.head ++ bytes) ≡ true → (Asks.More ≡ Asks.Source) ⊎ ((Asks.More ≡ Asks.More) × LacksHeadRoom bytes one × (after ≡ cut_for_memory one)))
    → LacksHeadRoom bytes client × (after ≡ cut_for_memory (moved client))
more_of_source bytes client one after is source known =
    more_is_cut bytes (moved client) after source
    (subst (λ (it : ClientState). asks_as_source (it.head ++ bytes) ≡ true → (Asks.More ≡ Asks.Source) ⊎ ((Asks.More ≡ Asks.More) × LacksHeadRoom bytes it × (after ≡ cut_for_memory it))) is known)

-- it asks for nothing else
pub no_other : (asks : AsksOf) (bytes : List ℕ) (client one after : ClientState) → one ≡ moved client → asks_as_source (client.head ++ bytes) ≡ true
    → asks ≢ Asks.Source → asks ≢ Asks.More
    → (asks_as_source (one.head ++ bytes) ≡ true → (asks ≡ Asks.Source) ⊎ ((asks ≡ Asks.More) × LacksHeadRoom bytes one × (after ≡ cut_for_memory one))) → ⊥
no_other asks bytes client one after is source not_source not_more known =
    elim (known (ap (λ (it : ClientState). asks_as_source (it.head ++ bytes)) is ∙ source)) [
      | inl same ↦ not_source same
      | inr (more, lacks, cut) ↦ not_more more
    ]

-- its head says what becomes of it
pub sourced : (key now : ℕ) (bytes : List ℕ) (password : Option Password) (skeletons : Skeletons) (serials : List ℕ) (old new : Option OnAir)
    (slots : Slab ClientState) (client one asked other : ClientState) (found : Option ClientState) → get slots key ≡ Some client → one ≡ moved client
    → HasAsked Asks.Source bytes one asked → other ≡ with_stage Offering asked
    → ((it : ClientState) → get (with_value slots key other) key ≡ Some it → (after : ClientState) × (found ≡ Some after)
    × IsOffered key [] now password skeletons serials old new it after)
    → (after : ClientState) × (found ≡ Some after) × IsSourced key bytes now password skeletons serials old new client after
sourced key now bytes password skeletons serials old new slots client one asked other found is was asks same leads =
    let (source, becomes) = subst (λ (it : ClientState). HasAsked Asks.Source bytes it asked) was asks in
    let (after, left, offered) = leads other (placed slots key client other is) in (
      after,
      left,
      inr (
        asked.head_room,
        subst (λ (it : ClientState). IsOffered key [] now password skeletons serials old new it after) (same ∙ ap (with_stage Offering) becomes) offered,
      ),
    )

pub own_not_source : (resource : OwnResource) (head : Bool) → Asks.Own resource head ≢ Asks.Source
own_not_source resource head e = cc

pub own_not_more : (resource : OwnResource) (head : Bool) → Asks.Own resource head ≢ Asks.More
own_not_more resource head e = cc

pub file_not_source : Asks.File ≢ Asks.Source
file_not_source e = cc

pub file_not_more : Asks.File ≢ Asks.More
file_not_more e = cc

-- ---- what a head asks for
module _ {D : Type 0} (model : DiskModel D) where
  pub awaits : (bytes : List ℕ) (hub : HubParts D) (client one after : ClientState) → one ≡ moved client → HasAsked Asks.More bytes one after
      → Awaits model bytes hub hub client after
  awaits bytes hub client one after is asked = (refl, subst (λ (it : ClientState). HasAsked Asks.More bytes it after) is asked)

  pub offers : (password : Option Password) (bytes : List ℕ) (old new : HubParts D) (slots : Slab ClientState) (key : ℕ)
      (client one asked other : ClientState) (found : Option ClientState) → get slots key ≡ Some client → one ≡ moved client
      → HasAsked Asks.Source bytes one asked → password ≢ None → new ≡ old → other.stage ≡ Offering → other.session ≡ asked.session
      → OffersOn (get (with_value slots key other) key) found
      → (after : ClientState) × (found ≡ Some after) × Offers model password bytes old new client after
  offers password bytes old new slots key client one asked other found is was asks set same stage session offering =
      let (source, becomes) = subst (λ (it : ClientState). HasAsked Asks.Source bytes it asked) was asks in
      let (after, left, goes) = found_offered found other (subst (λ (it : Option ClientState). OffersOn it found) (placed slots key client other is) offering) (ap is_source stage) in
      (after, left, (same, source, set, (goes.0, goes.1 ∙ session ∙ ap (λ (it : ClientState). it.session) becomes)))

  pub gets_own : (places : PlacesState) (bytes : List ℕ) (old new : HubParts D) (resource : OwnResource) (head : Bool)
      (client one asked : ClientState) (found : Option ClientState) → one ≡ moved client → HasAsked (Asks.Own resource head) bytes one asked
      → KeepsMachine model old new
      → (after : ClientState) × (found ≡ Some after) × IsAnswered resource head asked after × Joins model resource head places old after
      × HasCause model resource places old new asked after
      → (after : ClientState) × (found ≡ Some after) × GetsOwn model places bytes old new client after
  gets_own places bytes old new resource head client one asked found was asks keeps (after, left, answered, joins, cause) =
      let (own, becomes) = subst (λ (it : ClientState). HasAsked (Asks.Own resource head) bytes it asked) was asks in (
        after,
        left,
        (
          resource,
          head,
          asked.head_room,
          own,
          keeps,
          subst (λ (it : ClientState). IsAnswered resource head it after) becomes answered,
          joins,
          subst (λ (it : ClientState). HasCause model resource places old new it after) becomes cause,
        ),
      )

  connected : (password : Option Password) (bytes : List ℕ) (old new : HubParts D) (client asked after : ClientState)
      → IsOther (client.head ++ bytes) ⊎ ((asks_as_source (client.head ++ bytes) ≡ true) × (password ≡ None)) → asked ≡ with_more asked.head_room bytes (moved client)
      → IsConnected (Shows model) old new asked after ⊎ HasNoSession old new asked after → Connects model password bytes old new client after
  connected password bytes old new client asked after cause becomes connects =
      (cause, (asked.head_room, subst (λ (it : ClientState). IsConnected (Shows model) old new it after ⊎ HasNoSession old new it after) becomes connects))

  pub connects_other : (password : Option Password) (bytes : List ℕ) (old new : HubParts D) (client one asked after : ClientState) → one ≡ moved client
      → HasAsked Asks.File bytes one asked → IsConnected (Shows model) old new asked after ⊎ HasNoSession old new asked after
      → Connects model password bytes old new client after
  connects_other password bytes old new client one asked after was asks connects =
      let (other, becomes) = subst (λ (it : ClientState). HasAsked Asks.File bytes it asked) was asks in
      connected password bytes old new client asked after (inl other) becomes connects

  pub connects_source : (password : Option Password) (bytes : List ℕ) (old new : HubParts D) (client one asked after : ClientState) → one ≡ moved client
      → HasAsked Asks.Source bytes one asked → password ≡ None → IsConnected (Shows model) old new asked after ⊎ HasNoSession old new asked after
      → Connects model password bytes old new client after
  connects_source password bytes old new client one asked after was asks unset connects =
      let (source, becomes) = subst (λ (it : ClientState). HasAsked Asks.Source bytes it asked) was asks in
      connected password bytes old new client asked after (inr (source, unset)) becomes connects
