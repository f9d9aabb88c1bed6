use Rattle.std.proofs.Common.{◌≡◌, ℕ, Some, List, ◌++◌, refl, sym, ◌∙◌, ap, subst, inl, inr}
use Rattle.slab.specs.Slab.{get}
use Rattle.serve_clients.specs.Client.{ClientState, LacksHeadRoom, cut, memory_refused, with_more}
use Rattle.serve_sources.specs.Asking.{HasHead}
use Rattle.serve_sources.specs.Offer.{IsUnread}
use Rattle.serve_sources.specs.declared.offer.Offer.TheVariants.{More}
use Rattle.serve_sources.specs.declared.password.Password.{Password}
use Rattle.serve_hub.specs.Parts.{serials_in}
use Rattle.station.specs.Passing.{is_source}
use Rattle.station.proofs.Results.{err_of, none_if, ok_of}
use Rattle.station.proofs.Asked.{begins_none}
use Rattle.station.specs.Found.{placed, same_client}
use Rattle.station.specs.Offering.{ComesOf, IsUnauthorized, Leads}
use Rattle.station.specs.Succeeding.{WasOffered, is_waiting}
use Rattle.station.proofs.Offered.{leads_begins, leads_feeder, leads_keeps, leads_offered, leads_on, leads_refused, offers_self, others_placed, was_placed}
use Rattle.station.proofs.Passed.{offered_to}
use Rattle.station.proofs.station.Station.offer.Given.{Over}
use Rattle.station.proofs.station.Station.offer.Goals as goal

pub returns-in_default-clause-unauthorized : goal.returns-in_default-clause-unauthorized
returns-in_default-clause-unauthorized g c client request password is set head isnt = refl

pub returns-in_default-clause-feeder : goal.returns-in_default-clause-feeder
returns-in_default-clause-feeder g c = inr refl

pub returns-in_default-clause-keeps : goal.returns-in_default-clause-keeps
returns-in_default-clause-keeps g c some = refl

pub returns-in_default-clause-options : goal.returns-in_default-clause-options
returns-in_default-clause-options g c = refl

pub returns-in_default-clause-live : goal.returns-in_default-clause-live
returns-in_default-clause-live g c = refl

pub returns-in_default-clause-begins : goal.returns-in_default-clause-begins
returns-in_default-clause-begins g c free =
    begins_none (serials_in c.args.self.now.live.hub.file) c.args.self.now.options.skeletons c.args.self.now.air free

pub returns-in_default-clause-others : goal.returns-in_default-clause-others
returns-in_default-clause-others g c other apart = refl

pub returns-in_default-clause-source : goal.returns-in_default-clause-source
returns-in_default-clause-source g c = offers_self (get c.args.self.now.clients.slots c.args.key)

pub returns-then-is_err-clause-unauthorized : goal.returns-then-is_err-clause-unauthorized
returns-then-is_err-clause-unauthorized g c client request password is set head isnt = refl

pub returns-then-is_err-clause-feeder : goal.returns-then-is_err-clause-feeder
returns-then-is_err-clause-feeder g c = inr refl

pub returns-then-is_err-clause-keeps : goal.returns-then-is_err-clause-keeps
returns-then-is_err-clause-keeps g c some = refl

pub returns-then-is_err-clause-options : goal.returns-then-is_err-clause-options
returns-then-is_err-clause-options g c = refl

pub returns-then-is_err-clause-live : goal.returns-then-is_err-clause-live
returns-then-is_err-clause-live g c = refl

pub returns-then-is_err-clause-begins : goal.returns-then-is_err-clause-begins
returns-then-is_err-clause-begins g c free =
    begins_none (serials_in c.args.self.now.live.hub.file) c.args.self.now.options.skeletons c.args.self.now.air free

pub returns-then-is_err-clause-others : goal.returns-then-is_err-clause-others
returns-then-is_err-clause-others g c other apart = others_placed c.args.self.now.clients.slots c.args.key _ other apart

pub returns-then-is_err-clause-offered : goal.returns-then-is_err-clause-offered
returns-then-is_err-clause-offered g c free = was_placed c.args.self.now.clients.slots c.args.key c.in-Some.client.now c.go_to.new.self (sym c.in-Some.ensures.value) (inl (ap (λ (one : ClientState). is_waiting one.stage) c.go_to.ensures))

pub returns-in_default-password-clause-unauthorized : goal.returns-in_default-password-clause-unauthorized
returns-in_default-password-clause-unauthorized g c client request password is set head isnt = refl

pub returns-in_default-password-clause-feeder : goal.returns-in_default-password-clause-feeder
returns-in_default-password-clause-feeder g c = inr refl

pub returns-in_default-password-clause-keeps : goal.returns-in_default-password-clause-keeps
returns-in_default-password-clause-keeps g c some = refl

pub returns-in_default-password-clause-options : goal.returns-in_default-password-clause-options
returns-in_default-password-clause-options g c = refl

pub returns-in_default-password-clause-live : goal.returns-in_default-password-clause-live
returns-in_default-password-clause-live g c = refl

pub returns-in_default-password-clause-begins : goal.returns-in_default-password-clause-begins
returns-in_default-password-clause-begins g c free =
    begins_none (serials_in c.args.self.now.live.hub.file) c.args.self.now.options.skeletons c.args.self.now.air free

pub returns-in_default-password-clause-others : goal.returns-in_default-password-clause-others
returns-in_default-password-clause-others g c other apart = others_placed c.args.self.now.clients.slots c.args.key _ other apart

pub returns-in_default-password-clause-offered : goal.returns-in_default-password-clause-offered
returns-in_default-password-clause-offered g c free = was_placed c.args.self.now.clients.slots c.args.key c.in-Some.client.now c.go_to-in_default-password.new.self (sym c.in-Some.ensures.value) (inl (ap (λ (one : ClientState). is_waiting one.stage) c.go_to-in_default-password.ensures))

-- what its head has led to
led : (g : Over) (c : goal.After-take_up g) → (after : ClientState) × (get c.take_up.new.self.clients.slots c.args.key ≡ Some after)
    × Leads c.args.key c.args.now c.args.self.now.options.skeletons (serials_in c.args.self.now.live.hub.file) c.offered-offer.result c.args.self.now.air
    c.take_up.new.self.air c.hear.new.self after
led g c =
    c.take_up.ensures.leads c.hear.new.self (placed c.args.self.now.clients.slots c.args.key c.in-Some.client.now c.hear.new.self (sym c.in-Some.ensures.value))

heard_more : (g : Over) (c : goal.After-take_up g) → c.hear.new.self ≡ with_more c.hear.new.self.head_room c.args.bytes.now c.in-Some.client.now
heard_more g c = ok_of _ c.hear.result c.is_err.result c.is_err.ensures.value c.if-is_err.false c.hear.ensures.ok

-- all that has come of the head was looked at
front_is : (g : Over) (c : goal.After-take_up g) → c.as_slice.result.now ≡ c.hear.new.self.head
front_is g c = c.as_slice.ensures.value ∙ ap (λ (one : ClientState). one.head) c.client.view_is

same_password : (one other : Password) → Some one ≡ Some other → one ≡ other
same_password one other e = cc

pub returns-clause-leads : goal.returns-clause-leads
returns-clause-leads g c client is =
    let old = c.args.self.now in
    let same : c.in-Some.client.now ≡ client = same_client c.in-Some.client.now client (c.in-Some.ensures.value ∙ is) in
    let room : ℕ = c.hear.new.self.head_room in
    let more : c.hear.new.self ≡ with_more room c.args.bytes.now client = heard_more g c ∙ ap (with_more room c.args.bytes.now) same in
    let (after, left, leads) = led g c in (
      after,
      left,
      inr (inr (
        c.in-Some-password.password,
        c.offered-offer.result,
        room,
        c.in-Some-password.is,
        subst (λ (front : List ℕ). ComesOf c.in-Some-password.password front c.offered-offer.result) (front_is g c ∙ ap (λ (one : ClientState). one.head) more) c.offered-offer.ensures.comes,
        subst (λ (one : ClientState). Leads c.args.key c.args.now old.options.skeletons (serials_in old.live.hub.file) c.offered-offer.result old.air c.take_up.new.self.air one after) more leads,
      )),
    )

pub returns-clause-source : goal.returns-clause-source
returns-clause-source g c =
    let (after, left, leads) = led g c in
    offered_to c.args.self.now.clients.slots c.take_up.new.self.clients.slots c.args.key (Some c.in-Some.client.now) (Some after) (sym c.in-Some.ensures.value) left (λ source.
    let goes =
    leads_on c.args.key c.args.now c.args.self.now.options.skeletons (serials_in c.args.self.now.live.hub.file) c.offered-offer.result c.args.self.now.air c.take_up.new.self.air
    c.hear.new.self after leads (ap (λ (one : ClientState). is_source one.stage) (heard_more g c) ∙ source) in
    (goes.0, goes.1 ∙ ap (λ (one : ClientState). one.session) (heard_more g c)))

pub returns-clause-unauthorized : goal.returns-clause-unauthorized
returns-clause-unauthorized g c client request password is set head isnt =
    let (after, left, leads) = led g c in
    let same : c.in-Some.client.now ≡ client = same_client c.in-Some.client.now client (c.in-Some.ensures.value ∙ is) in
    let front : c.as_slice.result.now ≡ client.head ++ c.args.bytes.now =
    front_is g c ∙ ap (λ (one : ClientState). one.head) (heard_more g c) ∙ ap (λ (one : ClientState). one.head ++ c.args.bytes.now) same in
    let secret : password ≡ c.in-Some-password.password = same_password password c.in-Some-password.password (sym set ∙ c.in-Some-password.is) in
    leads_refused c.args.key c.args.now c.args.self.now.options.skeletons (serials_in c.args.self.now.live.hub.file) c.offered-offer.result c.args.self.now.air c.take_up.new.self.air
    c.hear.new.self after leads
    (c.offered-offer.ensures.unauthorized request (subst (λ (bytes : List ℕ). HasHead bytes request) (sym front) head) (subst (λ (one : Password). IsUnauthorized one request) secret isnt))

pub returns-clause-offered : goal.returns-clause-offered
returns-clause-offered g c free =
    let (after, left, leads) = led g c in
    subst WasOffered (sym left)
    (leads_offered c.args.key c.args.now c.args.self.now.options.skeletons (serials_in c.args.self.now.live.hub.file) c.offered-offer.result c.args.self.now.air c.take_up.new.self.air
    c.hear.new.self after leads (λ e. subst (λ (bytes : List ℕ). IsUnread bytes More) (front_is g c) (c.offered-offer.ensures.more e)) free)

pub returns-clause-feeder : goal.returns-clause-feeder
returns-clause-feeder g c =
    let (after, left, leads) = led g c in
    leads_feeder c.args.key c.args.now c.args.self.now.options.skeletons (serials_in c.args.self.now.live.hub.file) c.offered-offer.result c.args.self.now.air c.take_up.new.self.air
    c.hear.new.self after leads

pub returns-clause-keeps : goal.returns-clause-keeps
returns-clause-keeps g c some =
    let (after, left, leads) = led g c in
    leads_keeps c.args.key c.args.now c.args.self.now.options.skeletons (serials_in c.args.self.now.live.hub.file) c.offered-offer.result c.args.self.now.air c.take_up.new.self.air
    c.hear.new.self after leads some

pub returns-clause-begins : goal.returns-clause-begins
returns-clause-begins g c free =
    let (after, left, leads) = led g c in
    leads_begins c.args.key c.args.now c.args.self.now.options.skeletons (serials_in c.args.self.now.live.hub.file) c.offered-offer.result c.args.self.now.air c.take_up.new.self.air
    c.hear.new.self after leads free

pub returns-then-is_err-clause-leads : goal.returns-then-is_err-clause-leads
returns-then-is_err-clause-leads g c client is =
    let same : c.in-Some.client.now ≡ client = same_client c.in-Some.client.now client (c.in-Some.ensures.value ∙ is) in
    let refused = err_of _ c.hear.result c.is_err.result c.is_err.ensures.value c.if-is_err.true c.hear.ensures.err in (
      c.go_to.new.self,
      placed c.args.self.now.clients.slots c.args.key client c.go_to.new.self is,
      inl (
        refl,
        subst (LacksHeadRoom c.args.bytes.now) same (err_of _ c.hear.result c.is_err.result c.is_err.ensures.value c.if-is_err.true c.hear.ensures.full),
        c.go_to.ensures ∙ ap cut (refused ∙ ap memory_refused same),
      ),
    )

pub returns-in_default-password-clause-leads : goal.returns-in_default-password-clause-leads
returns-in_default-password-clause-leads g c client is =
    let same : c.in-Some.client.now ≡ client = same_client c.in-Some.client.now client (c.in-Some.ensures.value ∙ is) in
    let more = ok_of _ c.hear.result c.is_err.result c.is_err.ensures.value c.if-is_err.false c.hear.ensures.ok in
    let new = c.go_to-in_default-password.new.self in (
      new,
      placed c.args.self.now.clients.slots c.args.key client new is,
      inr (inl (
        refl,
        none_if c.args.self.now.options.password c.in_default-password.not-Some,
        c.go_to-in_default-password.ensures ∙ ap cut (more ∙ ap (with_more c.hear.new.self.head_room c.args.bytes.now) same)
            ∙ ap (λ room. cut (with_more room c.args.bytes.now client)) (sym (ap (λ (one : ClientState). one.head_room) c.go_to-in_default-password.ensures)),
      )),
    )
