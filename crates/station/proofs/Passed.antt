-- What calls leave of connections that they aren't for.
use Rattle.std.proofs.Common.{◌≡◌, ◌≢◌, ◌⊎◌, ℕ, true, false, Option, Some, None, refl, sym, ◌∙◌, ap, subst, inl, inr, Bool}
use Rattle.serve_clients.specs.Client.{ClientState, after_of, with_line, with_stage}
use Rattle.serve_clients.specs.Clients.{HasTurn, rested, turned_by, turned_in, with_turn}
use Rattle.serve_clients.specs.declared.clients.Clients.{Clients}
use Rattle.serve_clients.specs.declared.client.After.{After}
use Rattle.serve_clients.specs.declared.client.After.TheVariants.{Goes, Shuts, Closes}
use Rattle.serve_clients.specs.declared.line.Line.{Line}
use Rattle.serve_clients.specs.declared.client.Stage.{Stage}
use Rattle.serve_clients.specs.declared.client.Stage.TheVariants.{Asking, Offering, Waiting, Feeding, Reading, Sending, Hearing, Ending, Closing, Cut}
use Rattle.serve_sources.specs.declared.outcome.Outcome.{Outcome}
use Rattle.slab.specs.Slab.{Slab, get}
use Rattle.station.specs.Parting.{HasParted}
use Rattle.station.specs.Passing.{GoesOnAsSource, IsLike, OffersOn, has_offered, is_source}
use Rattle.station.specs.Succeeding.{is_waiting}

-- ---- sources
source_offered : (stage : Stage) → is_source stage ≡ true → has_offered stage ≡ true
source_offered Offering e = refl
source_offered Waiting e = refl
source_offered Feeding e = refl
source_offered Asking e = cc
source_offered Reading e = cc
source_offered Sending e = cc
source_offered Hearing e = cc
source_offered Ending e = cc
source_offered Closing e = cc
source_offered Cut e = cc

pub source_is : (client : ClientState) → is_source client.stage ≡ true → GoesOnAsSource client client
source_is client is = (source_offered client.stage is, refl)

pub offered_to : (old new : Slab ClientState) (key : ℕ) (one other : Option ClientState) → get old key ≡ one → get new key ≡ other → OffersOn one other
    → OffersOn (get old key) (get new key)
offered_to old new key one other is becomes offers =
    subst (λ (found : Option ClientState). OffersOn found (get new key)) (sym is) (subst (OffersOn one) (sym becomes) offers)

-- ---- a source that parts, or is offered the air
pub parted : (answer : Option Outcome) (old new : ClientState) → HasParted answer old new → GoesOnAsSource old new
parted None old new is = (ap (λ (one : ClientState). has_offered one.stage) is, ap (λ (one : ClientState). one.session) is)
parted (Some outcome) old new (inl is) = (ap (λ (one : ClientState). has_offered one.stage) is, ap (λ (one : ClientState). one.session) is)
parted (Some outcome) old new (inr (lacks, is)) = (ap (λ (one : ClientState). has_offered one.stage) is, ap (λ (one : ClientState). one.session) is)

pub waiting : (stage : Stage) → is_waiting stage ≡ true → is_source stage ≡ true
waiting Waiting e = refl
waiting Offering e = refl
waiting Feeding e = refl
waiting Asking e = cc
waiting Reading e = cc
waiting Sending e = cc
waiting Hearing e = cc
waiting Ending e = cc
waiting Closing e = cc
waiting Cut e = cc

-- ---- calls for one connection
pub line_like : (old new : ClientState) (line : Line) → new ≡ with_line line old → IsLike old new
line_like old new line is = (
  ap (λ (one : ClientState). one.stage) is,
  ap (λ (one : ClientState). one.session) is,
  ap (λ (one : ClientState). one.head) is,
  ap (λ (one : ClientState). one.unsent) is,
  ap (λ (one : ClientState). one.listener) is,
)

pub turned_like : (client after : ClientState) (now : ℕ) (kind : After) → after_of client ≡ kind → IsLike (turned_in kind now client) after
    → IsLike client after ⊎ ((after_of client ≡ Shuts) × IsLike (with_stage Closing client) after)
turned_like client after now Shuts is same = inr (is, same)
turned_like client after now Goes is same = inl same
turned_like client after now Closes is same = inl same

resting_like : (client after : ClientState) (now : ℕ) (kind : After) → after_of client ≡ kind → IsLike (turned_in kind now (record client { idle = true })) after
    → IsLike client after ⊎ ((after_of client ≡ Shuts) × IsLike (with_stage Closing client) after)
resting_like client after now Shuts is same = inr (is, same)
resting_like client after now Goes is same = inl same
resting_like client after now Closes is same = inl same

-- the same of one that may rest
pub turned_rested : (waiting : Bool) (client after : ClientState) (now : ℕ)
    → (IsLike (turned_by waiting now client) after → IsLike client after ⊎ ((after_of client ≡ Shuts) × IsLike (with_stage Closing client) after))
    × (IsLike client (rested waiting client) ⊎ ((after_of client ≡ Shuts) × IsLike (with_stage Closing client) (rested waiting client)))
turned_rested true client after now = (λ same. resting_like client after now (after_of client) refl same, inl (refl, refl, refl, refl, refl))
turned_rested false client after now = (λ same. turned_like client after now (after_of client) refl same, inl (refl, refl, refl, refl, refl))

-- ---- since when it is silent
pub rested_since : (waiting : Bool) (client : ClientState) → (rested waiting client).since ≡ client.since
rested_since true client = refl
rested_since false client = refl

in_since : (kind : After) (now : ℕ) (client : ClientState) → kind ≢ Shuts → (turned_in kind now client).since ≡ client.since
in_since Goes now client goes = refl
in_since Shuts now client goes = absurd (goes refl)
in_since Closes now client goes = refl

by_since : (waiting : Bool) (now : ℕ) (client : ClientState) → after_of client ≢ Shuts → (turned_by waiting now client).since ≡ client.since
by_since waiting now client goes = in_since (after_of client) now (rested waiting client) goes ∙ rested_since waiting client

one_found : (found : Option ClientState) (one other : ClientState) → found ≡ Some one → found ≡ Some other → one.since ≡ other.since
one_found None one other is same = cc
one_found (Some client) one other is same = cc

pub turned_since : (waiting : Bool) (now key : ℕ) (client after : ClientState) (old new : Clients) → after_of client ≢ Shuts
    → HasTurn key (turned_by waiting now client) old new → get new.slots key ≡ Some after → after.since ≡ client.since
turned_since waiting now key client after old new goes (inl (queued, is, turns)) left =
    one_found (get new.slots key) after (turned_by waiting now client) left is ∙ by_since waiting now client goes
turned_since waiting now key client after old new goes (inr (inl (queued, is, turns))) left =
    one_found (get new.slots key) after (with_turn (turned_by waiting now client)) left is ∙ by_since waiting now client goes
turned_since waiting now key client after old new goes (inr (inr (queued, is, turns, full))) left =
    one_found (get new.slots key) after (turned_by waiting now client) left is ∙ by_since waiting now client goes
