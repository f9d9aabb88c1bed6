-- A source that waits, and is given its next bytes.
use Rattle.std.proofs.Common.{◌≡◌, ◌≢◌, ◌⊎◌, ◌&&◌, ℕ, zero, suc, Bool, true, false, Option, Some, None, List, [], ◌∷◌, if◌then◌else◌, refl, sym, ◌∙◌, ap, inl, inr}
use Rattle.disk_model.specs.declared.disk.Disk.{Ghosts as DiskModel}
use Rattle.serve_clients.specs.Client.{ClientState, ended_if, given as given_to, is_hearing}
use Rattle.serve_clients.specs.declared.client.Stage.{Stage}
use Rattle.serve_clients.specs.declared.client.Stage.TheVariants.{Sending, Hearing}
use Rattle.serve_hub.specs.Parts.{HubParts}
use Rattle.station_hub.specs.Giving.{Gives}
use Rattle.station.specs.Passing.{GoesOnAsSource, OffersOn, has_offered, is_source}

pub found_offered : (found : Option ClientState) (client : ClientState) → OffersOn (Some client) found → is_source client.stage ≡ true
    → (one : ClientState) × (found ≡ Some one) × GoesOnAsSource client one
found_offered None client offers source = absurd offers
found_offered (Some one) client offers source = (one, refl, offers source)

not_sending : (stage : Stage) → has_offered stage ≡ true → stage ≢ Sending
not_sending stage is e = let x : has_offered Sending ≡ true = sym (ap has_offered e) ∙ is in cc

not_hearing : (stage : Stage) → has_offered stage ≡ true → stage ≢ Hearing
not_hearing stage is e = let x : has_offered Hearing ≡ true = sym (ap has_offered e) ∙ is in cc

some_or_none : (bytes : List ℕ) → (bytes ≡ []) ⊎ (bytes ≢ [])
some_or_none [] = inl refl
some_or_none (byte ∷ bytes) = inr (λ e. cc)

-- nothing is pulled for it
pub offered_gets : {D : Type 0} (model : DiskModel D) (old new : HubParts D) (size count : ℕ) (client after : ClientState) (buffer : List ℕ)
    → Gives model old new size client count buffer after → has_offered client.stage ≡ true → (new ≡ old) × (after ≡ client)
offered_gets model old new size count client after buffer gives is = elim (some_or_none client.unsent) [
  | inl none ↦
      let (nothing, hub, same) = gives.nothing none (not_sending client.stage is) (not_hearing client.stage is) in
      (hub, same)
  | inr some ↦
      let (hub, same, again) = gives.again some in
      (hub, same)
]

pub gives_nothing : {D : Type 0} (model : DiskModel D) (old new : HubParts D) (size count : ℕ) (client after : ClientState) (buffer : List ℕ)
    → Gives model old new size client count buffer after → has_offered client.stage ≡ true → client.unsent ≡ [] → count ≡ 0
gives_nothing model old new size count client after buffer gives is none =
    (gives.nothing none (not_sending client.stage is) (not_hearing client.stage is)).0

pub given_offered : (count now : ℕ) (ending : Bool) (client : ClientState) → has_offered client.stage ≡ true → has_offered (given_to count ending now client).stage ≡ true
given_offered zero now ending client is = ended (is_hearing client.stage && ending)
  where
    ended : (b : Bool) → has_offered (ended_if b (record client { idle = true })).stage ≡ true
    ended true = refl
    ended false = is
given_offered (suc count) now ending client is = either client.idle
  where
    either : (b : Bool) → has_offered (if b then record client { idle = false; since = now } else client).stage ≡ true
    either true = is
    either false = is
