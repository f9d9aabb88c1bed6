use Rattle.std.proofs.Common.{◌≡◌, Some, ◌∙◌, ap}
use Rattle.serve_clients.specs.Client.{ClientState, with_line, with_stage}
use Rattle.serve_clients.specs.Line.{moved_on}
use Rattle.station_hub.specs.Asking.{stage_after}
use Rattle.station.specs.Found.{placed, same_client}
use Rattle.station.proofs.Offered.{others_placed}
use Rattle.station.proofs.Passed.{line_like}
use Rattle.station.proofs.station.Station.read_on.Goals as goal

pub returns-in-Some-clause-reads : goal.returns-in-Some-clause-reads
returns-in-Some-clause-reads g c client id is session =
    let same : c.in-Some.client.now ≡ client = same_client c.in-Some.client.now client (c.in-Some.ensures.value ∙ is) in
    let noticed : c.notice.new.client ≡ with_line (moved_on client.line) client =
    c.notice.ensures ∙ ap (λ (one : ClientState). with_line (moved_on one.line) one) same in
    let (progress, steps, becomes) = c.read_on.ensures.read id (ap (λ (one : ClientState). one.session) noticed ∙ session) in
    (progress, steps, placed c.args.self.now.clients.slots c.args.key client c.read_on.new.client is ∙ ap Some (becomes ∙ ap (with_stage (stage_after progress)) noticed))

pub returns-in-Some-clause-unread : goal.returns-in-Some-clause-unread
returns-in-Some-clause-unread g c client is none =
    let same : c.in-Some.client.now ≡ client = same_client c.in-Some.client.now client (c.in-Some.ensures.value ∙ is) in
    let noticed : c.notice.new.client ≡ with_line (moved_on client.line) client =
    c.notice.ensures ∙ ap (λ (one : ClientState). with_line (moved_on one.line) one) same in
    let (hub, stays) = c.read_on.ensures.unread (ap (λ (one : ClientState). one.session) noticed ∙ none) in
    (c.read_on.new.client, placed c.args.self.now.clients.slots c.args.key client c.read_on.new.client is, line_like client c.read_on.new.client (moved_on client.line) (stays ∙ noticed), hub)

pub returns-in-Some-clause-disk : goal.returns-in-Some-clause-disk
returns-in-Some-clause-disk g c = c.read_on.ensures.disk

pub returns-in-Some-clause-recorded : goal.returns-in-Some-clause-recorded
returns-in-Some-clause-recorded g c = (c.read_on.ensures.recorded, c.read_on.ensures.places)

pub returns-in-Some-clause-others : goal.returns-in-Some-clause-others
returns-in-Some-clause-others g c other apart = others_placed c.args.self.now.clients.slots c.args.key c.read_on.new.client other apart
