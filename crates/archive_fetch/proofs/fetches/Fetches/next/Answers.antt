use Rattle.std.proofs.Common.{◌≡◌, Some, length, sym, ◌∙◌, ap, subst}
use Rattle.slab.specs.Slab.{get}
use Rattle.serve_clients.specs.Client.{ClientState}
use Rattle.archive_fetch.specs.Bodies.{HasPulled}
use Rattle.archive_fetch.specs.Hearing.{Hears}
use Rattle.archive_fetch.proofs.Placed.{placed, same}
use Rattle.archive_fetch.proofs.fetches.Fetches.next.Goals as goal

pub returns-clause-pulls : goal.returns-clause-pulls
returns-clause-pulls g c client id body here none sending session found =
    let slots = c.args.self.now.clients.slots in
    let there : get slots c.args.key ≡ Some c.in-Some.client.now = sym c.in-Some.ensures.value in
    let is : c.in-Some.client.now ≡ client = same _ _ (sym there ∙ here) in
    let (rest, pulled, kept) = c.give-count.ensures.pulls id body
    (ap (λ (one : ClientState). one.unsent) is ∙ none) (ap (λ (one : ClientState). one.stage) is ∙ sending)
    (ap (λ (one : ClientState). one.session) is ∙ session) found in (
      c.give-count.new.client,
      rest,
      subst (λ (one : ClientState). HasPulled g.D.Disk (length c.args.buffer.now) one body c.give-count.result c.give-count.new.buffer c.give-count.new.client rest) is pulled,
      placed slots c.args.key c.in-Some.client.now c.given.new.self there ∙ ap Some c.given.ensures,
      kept,
    )

pub returns-clause-hears : goal.returns-clause-hears
returns-clause-hears g c client id heard here none hearing session found =
    let slots = c.args.self.now.clients.slots in
    let there : get slots c.args.key ≡ Some c.in-Some.client.now = sym c.in-Some.ensures.value in
    let is : c.in-Some.client.now ≡ client = same _ _ (sym there ∙ here) in
    let (rest, hears, kept) = c.give-count.ensures.hears id heard
    (ap (λ (one : ClientState). one.unsent) is ∙ none) (ap (λ (one : ClientState). one.stage) is ∙ hearing)
    (ap (λ (one : ClientState). one.session) is ∙ session) found in (
      c.give-count.new.client,
      rest,
      subst (λ (one : ClientState). Hears g.D.Disk (length c.args.buffer.now) one heard c.give-count.result c.give-count.new.buffer c.give-count.new.client rest) is hears,
      placed slots c.args.key c.in-Some.client.now c.given.new.self there ∙ ap Some c.given.ensures,
      kept,
    )
