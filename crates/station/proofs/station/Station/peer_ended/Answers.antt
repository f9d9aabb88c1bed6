use Rattle.std.proofs.Common.{◌≡◌, Some, sym, ◌∙◌, ap, subst}
use Rattle.slab.specs.Slab.{get}
use Rattle.serve_clients.specs.Client.{ClientState}
use Rattle.serve_clients.specs.Line.{read_failed_by}
use Rattle.serve_clients.specs.declared.client.Stage.{Stage}
use Rattle.serve_clients.specs.declared.client.Stage.TheVariants.{Cut}
use Rattle.serve_clients.specs.declared.line.Trouble.TheVariants.{Blocked}
use Rattle.station.specs.Found.{placed, same_client}
use Rattle.station.specs.Turning.{stage_at_half_close}
use Rattle.station.proofs.Turned.{cuts_at, goes_at, half_goes, half_gone}
use Rattle.station.proofs.station.Station.peer_ended.Goals as goal

pub returns-in-Feeding-clause-client : goal.returns-in-Feeding-clause-client
returns-in-Feeding-clause-client g c client is =
    let same : c.in-Some.client.now ≡ client = same_client c.in-Some.client.now client (c.in-Some.ensures.value ∙ is) in
    let new = c.stands-2.new.self in
    let line : c.read_failed.result ≡ read_failed_by Blocked client.line =
    c.read_failed.ensures ∙ ap (λ (one : ClientState). read_failed_by Blocked one.line) (c.stands.view_is ∙ same) in
    let stage : c.client.inside.stage ≡ client.stage =
    ap (λ (one : ClientState). one.stage) c.client.view_is ∙ ap (λ (one : ClientState). one.stage) c.stands-2.ensures ∙ ap (λ (one : ClientState). one.stage) same in
    ap (λ clients. get clients.slots c.args.key) c.end_air.ensures.clients ∙ placed c.args.self.now.clients.slots c.args.key client new is
    ∙ ap Some (half_goes client new c.read_failed.result line
    (c.stands-2.ensures ∙ ap (λ (one : ClientState). record one { line = c.read_failed.result }) same)
    (ap stage_at_half_close (sym stage ∙ c.in-Feeding.is) ∙ sym (sym stage ∙ c.in-Feeding.is)))

pub returns-in-Asking-clause-client : goal.returns-in-Asking-clause-client
returns-in-Asking-clause-client g c client is =
    let same : c.in-Some.client.now ≡ client = same_client c.in-Some.client.now client (c.in-Some.ensures.value ∙ is) in
    let line : c.read_failed.result ≡ read_failed_by Blocked client.line =
    c.read_failed.ensures ∙ ap (λ (one : ClientState). read_failed_by Blocked one.line) (c.stands.view_is ∙ same) in
    let stage : c.client.inside.stage ≡ client.stage =
    ap (λ (one : ClientState). one.stage) c.client.view_is ∙ ap (λ (one : ClientState). one.stage) c.stands-2.ensures ∙ ap (λ (one : ClientState). one.stage) same in
    placed c.args.self.now.clients.slots c.args.key client c.go_to.new.self is
    ∙ ap Some (half_gone client c.stands-2.new.self c.go_to.new.self c.read_failed.result line
    (c.stands-2.ensures ∙ ap (λ (one : ClientState). record one { line = c.read_failed.result }) same) c.go_to.ensures
    (subst (λ (one : Stage). stage_at_half_close one ≡ Cut) stage (cuts_at c.client.inside.stage c.in-Asking.is)))

pub returns-in-Waiting-clause-client : goal.returns-in-Waiting-clause-client
returns-in-Waiting-clause-client g c client is =
    let same : c.in-Some.client.now ≡ client = same_client c.in-Some.client.now client (c.in-Some.ensures.value ∙ is) in
    let new = c.stands-2.new.self in
    let line : c.read_failed.result ≡ read_failed_by Blocked client.line =
    c.read_failed.ensures ∙ ap (λ (one : ClientState). read_failed_by Blocked one.line) (c.stands.view_is ∙ same) in
    let stage : c.client.inside.stage ≡ client.stage =
    ap (λ (one : ClientState). one.stage) c.client.view_is ∙ ap (λ (one : ClientState). one.stage) c.stands-2.ensures ∙ ap (λ (one : ClientState). one.stage) same in
    placed c.args.self.now.clients.slots c.args.key client new is
    ∙ ap Some (half_goes client new c.read_failed.result line
    (c.stands-2.ensures ∙ ap (λ (one : ClientState). record one { line = c.read_failed.result }) same)
    (subst (λ (one : Stage). stage_at_half_close one ≡ one) stage (goes_at c.client.inside.stage c.in-Waiting.is)))
