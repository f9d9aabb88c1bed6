use Rattle.std.proofs.Common.{◌≡◌, ℕ, Bool, true, false, Option, Some, None, refl, sym, ◌∙◌, ap, subst}
use Rattle.std.specs.Prelude.{OnOk}
use Rattle.serve_clients.specs.Client.{ClientState}
use Rattle.station.specs.declared.station.Station.{Station}
use Rattle.station_hub.specs.Giving.{has_got_all}
use Rattle.station_files.specs.Moving.{GoesOnBy}
use Rattle.station_files.specs.Places.{has_heard_all}
use Rattle.station_files.specs.declared.seats.Past.{Past}
use Rattle.station_files.proofs.Behind.{goes_on, listens}
use Rattle.station_files.proofs.seats.Past.let_go.Goals as goal

true_false : true ≡ false → ⊥
true_false e = cc

no_client : (client : ClientState) → None ≡ Some client → ⊥
no_client client is = cc

one_client : (one other : ClientState) → Some one ≡ Some other → one ≡ other
one_client one other is = cc

-- who has heard all isn't waited for
heard : (end : ℕ) (found : Option ClientState) (result : Bool) → ((client : ClientState) → found ≡ Some client → result ≡ has_got_all end client)
    → (found ≡ None → result ≡ false) → result ≡ true → has_heard_all end found ≡ false → ⊥
heard end None result some none is not = true_false (sym is ∙ none refl)
heard end (Some client) result some none is not = true_false (sym is ∙ some client refl ∙ not)

pub returns-in_err-client : goal.returns-in_err-client
returns-in_err-client g c = record {
  waits = λ machine shows not. absurd (heard _ _ c.has_heard_all.result (λ client is. c.has_heard_all.ensures.some machine client shows is)
      c.has_heard_all.ensures.none c.if-not-has_heard_all.false not);
  goes = λ machine client shows there all.
      let (hears, listening) = listens _ client all in
      let (after, still, goes) = goes_on c.hear_on-heard.result c.args.self.now.meeting c.args.key c.args.self.now.station c.hear_on-heard.new.self.station
      client hears there listening c.hear_on-heard.ensures.on (λ none. ap (λ (one : Past _). one.station) ((c.hear_on-heard.ensures.none none).1))
      c.hear_on-heard.ensures.same in
      absurd (no_client after (sym c.in_err-client.was ∙ c.leave.ensures.left ∙ still));
  rest = ap (λ (one : Past _). record one { station = c.leave.new.self }) c.hear_on-heard.ensures.rest;
}

pub returns-in-Ok : goal.returns-in-Ok
returns-in-Ok g c = record {
  waits = λ machine shows not. absurd (heard _ _ c.has_heard_all.result (λ client is. c.has_heard_all.ensures.some machine client shows is)
      c.has_heard_all.ensures.none c.if-not-has_heard_all.false not);
  goes = λ machine client shows there all.
      let (hears, listening) = listens _ client all in
      let (after, still, goes) = goes_on c.hear_on-heard.result c.args.self.now.meeting c.args.key c.args.self.now.station c.hear_on-heard.new.self.station
      client hears there listening c.hear_on-heard.ensures.on (λ none. ap (λ (one : Past _). one.station) ((c.hear_on-heard.ensures.none none).1))
      c.hear_on-heard.ensures.same in
      let same : after ≡ c.in_ok-client.client = one_client after c.in_ok-client.client (sym still ∙ sym c.leave.ensures.left ∙ c.in_ok-client.was) in (
        Some c.in_ok-client.client,
        ap (λ next. Some (Some c.in_ok-client.client, next)) (ap (λ (one : Past _). one.next) c.hear_on-heard.ensures.rest),
        subst (λ (one : ClientState). GoesOnBy c.args.self.now.meeting client (Some one)) same
            (subst (λ r. OnOk r (GoesOnBy c.args.self.now.meeting client (Some after))) c.in-Ok.is goes),
        record {
          gone = c.leave.ensures.gone;
          others = λ other differs. c.leave.ensures.others other differs ∙ c.hear_on-heard.ensures.others other differs;
          rest = c.leave.ensures.rest
              ∙ ap (λ (one : Station _). record one { clients = c.leave.new.self.clients; spare = c.leave.new.self.spare }) c.hear_on-heard.ensures.clients;
        },
      );
  rest = ap (λ (one : Past _). record one { station = c.leave.new.self }) c.hear_on-heard.ensures.rest;
}
