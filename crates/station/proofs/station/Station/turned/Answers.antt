use Rattle.std.proofs.Common.{◌≡◌, Bool, Some, sym, ◌∙◌, ap, subst, inl, inr}
use Rattle.serve_clients.specs.Client.{ClientState}
use Rattle.std.proofs.lemmas.Bool.{cases_Bool}
use Rattle.serve_clients.specs.Clients.{HasTurn, goes_again, rested, turned_by}
use Rattle.slab.specs.Slab.{get}
use Rattle.station.specs.PassingLaws.{has_turn}
use Rattle.station.specs.Turning.{GoesOn}
use Rattle.station.specs.Found.{same_client}
use Rattle.station.proofs.Passed.{rested_since, turned_rested, turned_since}
use Rattle.station.proofs.Turned.{goes_on, rests}
use Rattle.station.proofs.station.Station.turned.Goals as goal

pub returns-clause-again : goal.returns-clause-again
returns-clause-again g c client machine is shows goes =
    let waiting = c.waits_for_more-rests.result in
    let known = c.waits_for_more-rests.ensures.some client machine is shows in
    subst (λ (w : Bool). GoesOn c.args.key w client c.args.self.now.air → HasTurn c.args.key (turned_by w c.args.now client) c.args.self.now.clients c.turned.new.self) known
    (λ on. c.turned.ensures.again client is (goes_on c.args.key waiting client c.args.self.now.air c.reads-reads.result (c.reads-reads.ensures.no client is) on)) goes

pub returns-clause-rests : goal.returns-clause-rests
returns-clause-rests g c client machine is shows over =
    let waiting = c.waits_for_more-rests.result in
    let known = c.waits_for_more-rests.ensures.some client machine is shows in
    subst (λ (w : Bool). (GoesOn c.args.key w client c.args.self.now.air → ⊥)
    → (get c.turned.new.self.slots c.args.key ≡ Some (rested w client)) × (c.turned.new.self.turns ≡ c.args.self.now.clients.turns)) known
    (λ none. c.turned.ensures.rests client is (rests c.args.key waiting client c.args.self.now.air c.reads-reads.result (c.reads-reads.ensures.yes client is) none)) over

pub returns-clause-stays : goal.returns-clause-stays
returns-clause-stays g c client is = elim (cases_Bool (goes_again c.reads-reads.result c.waits_for_more-rests.result client)) [
  | inl goes ↦
      let (after, left, same) = has_turn c.args.key (turned_by c.waits_for_more-rests.result c.args.now client) c.args.self.now.clients c.turned.new.self (c.turned.ensures.again client is goes) in
      (after, left, (turned_rested c.waits_for_more-rests.result client after c.args.now).0 same)
  | inr rest ↦
      (rested c.waits_for_more-rests.result client, (c.turned.ensures.rests client is rest).0, (turned_rested c.waits_for_more-rests.result client client c.args.now).1)
]

pub returns-clause-since : goal.returns-clause-since
returns-clause-since g c client after is goes left =
    let rests = c.waits_for_more-rests.result in
    elim (cases_Bool (goes_again c.reads-reads.result rests client)) [
      | inl again ↦
          turned_since rests c.args.now c.args.key client after c.args.self.now.clients c.turned.new.self goes
          (c.turned.ensures.again client is again) left
      | inr rest ↦
          ap (λ (it : ClientState). it.since) (same_client after (rested rests client) (sym left ∙ (c.turned.ensures.rests client is rest).0))
          ∙ rested_since rests client
    ]
