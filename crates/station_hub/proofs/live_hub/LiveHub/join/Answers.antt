use Rattle.std.proofs.Common.{◌≡◌, ◌≢◌, ◌⊎◌, Option, Some, None, Result, Ok, Err, IfOk, IfErr, [], refl, sym, ◌∙◌, subst, inl, inr}
use Rattle.serve_live.specs.Boundaries.{place_to_join}
use Rattle.serve_live.specs.Hearing.{IsHearing}
use Rattle.serve_live.specs.Listening.{ListenerState}
use Rattle.serve_live.specs.declared.listener.JoinPlace.{JoinPlace}
use Rattle.serve_machine.specs.declared.fault.HubFault.{HubFault}
use Rattle.serve_machine.specs.declared.fault.HubFault.TheVariants.{NoSession, SessionsFull, Source, Memory, NoFile}
use Rattle.station_hub.specs.Asking.{CannotHear}
use Rattle.station_hub.specs.Tracking.{JoinsAt}
use Rattle.station_hub.proofs.live_hub.LiveHub.join.Goals as goal

if_ok : {T E : Type 0} (P Q : T → Type 0) → ((x : T) → P x → Q x) → (result : Result T E) → IfOk result P → IfOk result Q
if_ok P Q f (Ok x) holds = f x holds
if_ok P Q f (Err e) holds = tt

pub returns-in-Some-clause-joins : goal.returns-in-Some-clause-joins
returns-in-Some-clause-joins g c start machine shows tracks =
    let places = c.args.self.now.places in
    let found : place_to_join places.boundaries ≡ Some c.in-Some.place = sym c.place.ensures ∙ c.in-Some.is in
    let (links, are_links) = shows.linked machine.committed (inl refl) in
    let (moment, is_place) = c.listeners_join_committed_links.ensures.joins start machine places c.in-Some.place links tracks found are_links in
    if_ok (λ (listener : ListenerState). IsHearing moment machine.committed listener [])
    (λ (listener : ListenerState). JoinsAt (place_to_join places.boundaries) machine.committed listener)
    (λ listener hearing. subst (λ (place : Option JoinPlace). JoinsAt place machine.committed listener) (sym found) (links, moment, are_links, is_place, hearing))
    c.join.result (c.join.ensures.joins machine links moment shows are_links is_place)

-- why nobody can join
cause_of : {T : Type 0} (Lost Place : Type 0) (result : Result T HubFault) → Place → (result ≡ Err NoFile → Lost) → (result ≡ Err Source → Lost)
    → result ≢ Err NoSession → result ≢ Err SessionsFull → IfErr result (λ fault. ((fault ≡ Memory) × Place) ⊎ Lost)
cause_of Lost Place (Ok listener) place none failed apart full = tt
cause_of Lost Place (Err NoFile) place none failed apart full = inr (none refl)
cause_of Lost Place (Err Source) place none failed apart full = inr (failed refl)
cause_of Lost Place (Err Memory) place none failed apart full = inl (refl, place)
cause_of Lost Place (Err NoSession) place none failed apart full = absurd (apart refl)
cause_of Lost Place (Err SessionsFull) place none failed apart full = absurd (full refl)

some_place : (place : JoinPlace) → Some place ≡ None → ⊥
some_place place e = cc

pub returns-in-Some-clause-cause : goal.returns-in-Some-clause-cause
returns-in-Some-clause-cause g c =
    let places = c.args.self.now.places in
    let found : place_to_join places.boundaries ≡ Some c.in-Some.place = sym c.place.ensures ∙ c.in-Some.is in
    cause_of (CannotHear g.D.Disk places c.args.self.now.hub c.join.new.self) (place_to_join places.boundaries ≢ None) c.join.result
    (λ none. some_place c.in-Some.place (sym found ∙ none)) (λ e. inl (c.join.ensures.no_file.0 e))
    (λ e. inr (λ start machine shows tracks.
    let (links, are_links) = shows.linked machine.committed (inl refl) in
    let (moment, is_place) = c.listeners_join_committed_links.ensures.joins start machine places c.in-Some.place links tracks found are_links in
    c.join.ensures.cause machine links moment shows are_links is_place e)) c.join.ensures.other.0 c.join.ensures.other.1
