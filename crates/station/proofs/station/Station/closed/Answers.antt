use Rattle.std.proofs.Common.{◌≡◌, ℕ, Option, Some, None, refl, sym, ◌∙◌, ap, subst}
use Rattle.serve_clients.specs.Client.{ClientState}
use Rattle.slab.specs.Slab.{get}
use Rattle.station_hub.specs.Live.{StaysLive}
use Rattle.station_hub.specs.declared.live_hub.LiveHub.{LiveHub}
use Rattle.station.specs.Asked.{EndsSession}
use Rattle.station.specs.Passing.{session_in}
use Rattle.station.proofs.station.Station.closed.Goals as goal
use Rattle.station.proofs.station.Station.closed.Goals.{in-Some, in_default}

pub returns-clause-recorded : goal.returns-clause-recorded
returns-clause-recorded g c = elim c.match-client.branch [
  | in-Some w ↦
      subst (λ (live : LiveHub _). StaysLive g.D.Disk c.args.self.now.live live) (sym (c.lose_feeder.ensures.live ∙ ap (λ s. s.live) w.self-is))
      (w.close.ensures.recorded, w.close.ensures.places)
  | in_default w ↦
      subst (λ (live : LiveHub _). StaysLive g.D.Disk c.args.self.now.live live) (sym (c.lose_feeder.ensures.live ∙ ap (λ s. s.live) w.self-is))
      ((λ before shows. (before, shows, refl)), refl)
]

none_of : (session : Option ℕ) → ((id : ℕ) → session ≡ Some id → ⊥) → session ≡ None
none_of None other = refl
none_of (Some id) other = absurd (other id refl)

pub returns-clause-session : goal.returns-clause-session
returns-clause-session g c =
    let old = c.args.self.now.live in
    let new = c.lose_feeder.new.self.live in
    let found : session_in (get c.args.self.now.clients.slots c.args.key) ≡ c.client.inside.session =
    sym (ap session_in c.in_ok-client.ensures.value) ∙ sym (ap (λ (one : ClientState). one.session) c.client.view_is) in
    elim c.match-client.branch [
      | in-Some w ↦
          subst (λ (session : Option ℕ). EndsSession g.D.Disk session old.hub new.hub) (sym (found ∙ w.in-Some.is))
          (subst (λ (live : LiveHub _). EndsSession g.D.Disk (Some w.in-Some.id) old.hub live.hub) (sym (c.lose_feeder.ensures.live ∙ ap (λ s. s.live) w.self-is))
          w.close.ensures.step)
      | in_default w ↦
          subst (λ (session : Option ℕ). EndsSession g.D.Disk session old.hub new.hub) (sym (found ∙ none_of c.client.inside.session w.in_default.not-Some))
          (ap (λ (live : LiveHub _). live.hub) (c.lose_feeder.ensures.live ∙ ap (λ s. s.live) w.self-is))
    ]
