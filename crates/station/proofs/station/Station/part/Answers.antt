use denote.Enum.Bare.{sameb}
use Rattle.serve_clients.specs.contracts.client.Stage.{the_type}
use Rattle.serve_clients.specs.declared.client.Stage.{Stage}
use Rattle.std.proofs.Common.{◌≡◌, ℕ, false, not, List, Option, refl, sym, ◌∙◌, ap, subst, inl, inr}
use Rattle.serve_clients.specs.Client.{ClientState, HasLast, with_stage}
use Rattle.serve_clients.specs.declared.client.Stage.TheVariants.{Asking, Offering, Waiting, Feeding, Reading, Sending, Hearing, Ending, Closing, Cut}
use Rattle.serve_sources.specs.declared.outcome.Outcome.{Outcome}
use Rattle.station.specs.Parting.{HasParted}
use Rattle.station.specs.Found.{placed, same_client}
use Rattle.station.specs.Succeeding.{is_waiting}
use Rattle.station.proofs.Offered.{others_placed, waits_placed}
use Rattle.station.proofs.Kept.{placed_left}
use Rattle.station.proofs.station.Station.part.Goals as goal

pub returns-in-Some-answer-clause-parts : goal.returns-in-Some-answer-clause-parts
returns-in-Some-answer-clause-parts g c client is feeding =
    let same : c.in-Some.client.now ≡ client = same_client c.in-Some.client.now client (c.in-Some.ensures.value ∙ is) in
    let new = c.tell_last.new.self in (
      new,
      placed c.args.self.now.clients.slots c.args.key client new is,
      subst (λ (answer : Option Outcome). HasParted answer client new) (sym c.in-Some-answer.is)
          (subst (λ (text : List ℕ). HasLast text client new) c.answer.ensures
          (subst (λ (one : ClientState). HasLast c.answer.result.now one new) same c.tell_last.ensures)),
    )

pub returns-in-None-clause-parts : goal.returns-in-None-clause-parts
returns-in-None-clause-parts g c client is feeding =
    let same : c.in-Some.client.now ≡ client = same_client c.in-Some.client.now client (c.in-Some.ensures.value ∙ is) in (
      c.go_to.new.self,
      placed c.args.self.now.clients.slots c.args.key client c.go_to.new.self is,
      subst (λ (answer : Option Outcome). HasParted answer client c.go_to.new.self) (sym c.in-None.is)
          (c.go_to.ensures ∙ ap (with_stage Ending) same),
    )

is_feeding : (stage : Stage) → false ≡ not (sameb the_type stage Feeding) → stage ≡ Feeding
is_feeding Feeding e = refl
is_feeding Offering e = cc
is_feeding Waiting e = cc
is_feeding Asking e = cc
is_feeding Reading e = cc
is_feeding Sending e = cc
is_feeding Hearing e = cc
is_feeding Ending e = cc
is_feeding Closing e = cc
is_feeding Cut e = cc

pub returns-in-Some-answer-clause-left : goal.returns-in-Some-answer-clause-left
returns-in-Some-answer-clause-left g c =
    let old = c.in-Some.client.now in
    let new = c.tell_last.new.self in
    let feeds : old.stage ≡ Feeding =
    sym (ap (λ (one : ClientState). one.stage) c.client.view_is) ∙ is_feeding c.client.inside.stage c.if-ne.ensures in
    placed_left c.args.self.now.clients.slots c.args.key old new (sym c.in-Some.ensures.value)
    (inr (
      feeds,
      c.args.answer,
      subst (λ (answer : Option Outcome). HasParted answer old new) (sym c.in-Some-answer.is)
          (subst (λ (text : List ℕ). HasLast text old new) c.answer.ensures c.tell_last.ensures),
    ))

pub returns-in-None-clause-left : goal.returns-in-None-clause-left
returns-in-None-clause-left g c =
    let old = c.in-Some.client.now in
    let feeds : old.stage ≡ Feeding =
    sym (ap (λ (one : ClientState). one.stage) c.client.view_is) ∙ is_feeding c.client.inside.stage c.if-ne.ensures in
    placed_left c.args.self.now.clients.slots c.args.key old c.go_to.new.self (sym c.in-Some.ensures.value)
    (inr (feeds, c.args.answer, subst (λ (answer : Option Outcome). HasParted answer old c.go_to.new.self) (sym c.in-None.is) c.go_to.ensures))

pub returns-in-Some-answer-clause-others : goal.returns-in-Some-answer-clause-others
returns-in-Some-answer-clause-others g c other apart = others_placed c.args.self.now.clients.slots c.args.key c.tell_last.new.self other apart

pub returns-in-None-clause-others : goal.returns-in-None-clause-others
returns-in-None-clause-others g c other apart = others_placed c.args.self.now.clients.slots c.args.key c.go_to.new.self other apart

-- it waits neither before nor after
feeding_waits : (stage : Stage) → false ≡ not (sameb the_type stage Feeding) → is_waiting stage ≡ false
feeding_waits Waiting e = cc
feeding_waits Offering e = refl
feeding_waits Feeding e = refl
feeding_waits Asking e = refl
feeding_waits Reading e = refl
feeding_waits Sending e = refl
feeding_waits Hearing e = refl
feeding_waits Ending e = refl
feeding_waits Closing e = refl
feeding_waits Cut e = refl

last_waits : (text : List ℕ) (old new : ClientState) → HasLast text old new → is_waiting new.stage ≡ false
last_waits text old new (inl is) = ap (λ (one : ClientState). is_waiting one.stage) is
last_waits text old new (inr (lacks, is)) = ap (λ (one : ClientState). is_waiting one.stage) is

pub returns-in-Some-answer-clause-waits : goal.returns-in-Some-answer-clause-waits
returns-in-Some-answer-clause-waits g c =
    let old = c.in-Some.client.now in
    let waited : is_waiting old.stage ≡ false =
    sym (ap (λ (one : ClientState). is_waiting one.stage) c.client.view_is) ∙ feeding_waits c.client.inside.stage c.if-ne.ensures in
    waits_placed c.args.self.now.clients.slots c.args.key old c.tell_last.new.self (sym c.in-Some.ensures.value)
    (last_waits _ old c.tell_last.new.self c.tell_last.ensures ∙ sym waited)

pub returns-in-None-clause-waits : goal.returns-in-None-clause-waits
returns-in-None-clause-waits g c =
    let old = c.in-Some.client.now in
    let waited : is_waiting old.stage ≡ false =
    sym (ap (λ (one : ClientState). is_waiting one.stage) c.client.view_is) ∙ feeding_waits c.client.inside.stage c.if-ne.ensures in
    waits_placed c.args.self.now.clients.slots c.args.key old c.go_to.new.self (sym c.in-Some.ensures.value)
    (ap (λ (one : ClientState). is_waiting one.stage) c.go_to.ensures ∙ sym waited)
