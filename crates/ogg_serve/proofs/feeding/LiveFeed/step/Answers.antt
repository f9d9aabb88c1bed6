use Rattle.std.proofs.Common.{◌≡◌, Option, Result, refl, sym, subst}
use Rattle.std.specs.Prelude.{IfSome, ⊤}
use Rattle.feed_replies.specs.declared.fault.RunFault.{RunFault}
use Rattle.link_chain.specs.Laws.Walked.{no_fault_there}
use Rattle.serve_hub.specs.Showing.{Shows}
use Rattle.serve_machine.specs.Hub.{HubState}
use Rattle.ogg_serve.specs.Feeding.{feed_state}
use Rattle.ogg_serve.specs.declared.feeding.Step.{Step}
use Rattle.ogg_serve.proofs.Continuing.{by_outcome, hub_stepped, same}
use Rattle.ogg_serve.proofs.Taken.{ended_so, taken}
use Rattle.ogg_serve.proofs.feeding.LiveFeed.step.Goals as goal

pub returns-clause-takes : goal.returns-clause-takes
returns-clause-takes g c =
    let d = g.D.Disk in
    let in_ = c.self.inside in
    let e = c.take_step-answer.ensures in
    let n = c.take_step-answer.new in
    let answer = c.take_step-answer.result in
    let lasts = c.lasting-self-inside.ensures in
    let none = no_fault_there in_.ended c.in_default.not-Some in
    rw (← c.self.view_is)
    (λ before shown.
    let (after, shown_after, nothing, step) =
    taken d g.R.Read.remaining g.W.Write.contents
    (Shows d) (λ (a b : HubState). ⊤) (λ (m : HubState). tt) in_.ended in_.run.outcome answer
    (feed_state in_.reader in_.replies in_.run in_.ended) (feed_state n.reader n.replies n.run c.lasting-self-inside.result) c.args.hub.now n.hub before shown
    (subst (λ (o : Option (Result Step RunFault)). IfSome o (λ was. (answer ≡ was) × (feed_state n.reader n.replies n.run c.lasting-self-inside.result ≡ feed_state in_.reader in_.replies in_.run in_.ended) × (n.hub ≡ c.args.hub.now))) (sym none) tt)
    (λ going. ended_so in_.run.outcome answer c.lasting-self-inside.result in_.reader n.reader in_.replies n.replies in_.run n.run c.args.hub.now n.hub lasts e.closed)
    (λ going unended.
    let (now, is_in, has) = e.stepped (record { now = c.args.hub.now; machine = before }) (refl, shown) unended in
    (now.machine, is_in.1, tt, record { was = c.args.hub.now; now = now.now; answer = answer; stepped = has; ended = lasts })) in
    (after, shown_after, step))

pub returns-clause-history : goal.returns-clause-history
returns-clause-history g c = λ before shown.
    let d = g.D.Disk in
    let in_ = c.self.inside in
    let e = c.take_step-answer.ensures in
    let n = c.take_step-answer.new in
    by_outcome d in_.run.outcome _ c.args.hub.now n.hub e.closed (λ outcome (told, run, hub, reader, replies). hub)
    (λ unended.
    let (after, is_in, has) = e.stepped (record { now = c.args.hub.now; machine = before }) (refl, shown) unended in
    hub_stepped d c.disks_stand_in_their_world.ensures.step _ _ _ _ c.args.hub.now n.hub before after _ shown is_in has)

pub returns-in-Some-clause-history : goal.returns-in-Some-clause-history
returns-in-Some-clause-history g c = λ before shown.
    let d = g.D.Disk in
    same d c.args.hub.now c.args.hub.now refl
