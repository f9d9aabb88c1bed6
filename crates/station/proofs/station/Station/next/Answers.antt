use Rattle.std.proofs.Common.{◌≡◌, ℕ, Option, Some, length, ◌∙◌, ap, subst}
use Rattle.serve_sources.specs.Answers.{refusal}
use Rattle.serve_sources.specs.declared.refused.Refused.TheVariants.{OnTheAir}
use Rattle.station_sources.specs.declared.air.OnAir.{OnAir}
use Rattle.station.proofs.Offered.{last_on}
use Rattle.slab.specs.Slab.{get}
use Rattle.serve_clients.specs.Client.{ClientState, given}
use Rattle.station_hub.specs.Giving.{Gives}
use Rattle.station.specs.Ending.{is_over}
use Rattle.station.specs.Passing.{OffersOn, has_offered, is_source}
use Rattle.station.specs.PassingLaws.{given_session}
use Rattle.station.proofs.Waited.{found_offered, given_offered, gives_nothing, offered_gets}
use Rattle.station.proofs.station.Station.next.Goals as goal

pub returns-clause-gives : goal.returns-clause-gives
returns-clause-gives g c client is apart =
    let same = c.refuse_if_waited.ensures.same client is apart in
    subst (λ s. (after : ClientState) × Gives g.D.Disk s.live.hub c.give.new.self.live.hub (length c.args.buffer.now) client c.give.result c.give.new.buffer after × (get c.give.new.self.clients.slots c.args.key ≡ Some (given c.give.result (is_over s.air s.ending) c.args.now after))) same
    (c.give.ensures.gives client (ap (λ s. get s.clients.slots c.args.key) same ∙ is))

pub returns-clause-waits : goal.returns-clause-waits
returns-clause-waits g c client is waits =
    let mid = c.refuse_if_waited.new.self in
    let new = c.give.new.self in
    let key = c.args.key in
    let ending = is_over mid.air mid.ending in
    let offers = subst (λ found. OffersOn found (get mid.clients.slots key)) is c.refuse_if_waited.ensures.offers in
    let (one, stands, goes) = found_offered (get mid.clients.slots key) client offers (ap is_source waits) in
    let (after, gives, left) = c.give.ensures.gives one stands in
    let (hub, same) = offered_gets g.D.Disk mid.live.hub new.live.hub (length c.args.buffer.now) c.give.result one after c.give.new.buffer gives goes.0 in (
      given c.give.result ending c.args.now after,
      left,
      (
        given_offered c.give.result c.args.now ending after (ap (λ (it : ClientState). has_offered it.stage) same ∙ goes.0),
        given_session c.give.result c.args.now ending after ∙ ap (λ (it : ClientState). it.session) same ∙ goes.1,
      ),
      hub ∙ ap (λ live. live.hub) c.refuse_if_waited.ensures.live,
    )

pub returns-clause-refuses : goal.returns-clause-refuses
returns-clause-refuses g c client is waits refused =
    let old = c.args.self.now in
    let mid = c.refuse_if_waited.new.self in
    let new = c.give.new.self in
    let (one, stands, last) = c.refuse_if_waited.ensures.refuses client is refused in
    let (after, gives, left) = c.give.ensures.gives one stands in
    let (hub, same) = offered_gets g.D.Disk mid.live.hub new.live.hub (length c.args.buffer.now) c.give.result one after c.give.new.buffer gives (last_on (refusal OnTheAir) client one last).0 in (
      one,
      last,
      left ∙ ap (λ (it : ClientState). Some (given c.give.result (is_over mid.air mid.ending) c.args.now it)) same
          ∙ ap (λ (air : Option OnAir). Some (given c.give.result (is_over air mid.ending) c.args.now one)) c.refuse_if_waited.ensures.air
          ∙ ap (λ (ending : Option ℕ). Some (given c.give.result (is_over old.air ending) c.args.now one)) c.refuse_if_waited.ensures.ending,
    )

pub returns-clause-goes_on : goal.returns-clause-goes_on
returns-clause-goes_on g c client is waits isnt =
    let mid = c.refuse_if_waited.new.self in
    let new = c.give.new.self in
    let stays = c.refuse_if_waited.ensures.rest client is isnt in
    let (after, gives, left) = c.give.ensures.gives client (ap (λ s. get s.clients.slots c.args.key) stays ∙ is) in
    let (hub, same) = offered_gets g.D.Disk mid.live.hub new.live.hub (length c.args.buffer.now) c.give.result client after c.give.new.buffer gives (ap has_offered waits) in
    left ∙ ap (λ (it : ClientState). Some (given c.give.result (is_over mid.air mid.ending) c.args.now it)) same
    ∙ ap (λ s. Some (given c.give.result (is_over s.air s.ending) c.args.now client)) stays

pub returns-clause-silent : goal.returns-clause-silent
returns-clause-silent g c client is waits isnt none =
    let stays = c.refuse_if_waited.ensures.rest client is isnt in
    let (after, gives, left) = c.give.ensures.gives client (ap (λ s. get s.clients.slots c.args.key) stays ∙ is) in
    gives_nothing g.D.Disk c.refuse_if_waited.new.self.live.hub c.give.new.self.live.hub (length c.args.buffer.now) c.give.result client after c.give.new.buffer gives (ap has_offered waits) none
