use Rattle.std.proofs.Common.{◌≡◌, Some, Err, length, refl, sym, ◌∙◌, ap, subst, inl, inr}
use Rattle.serve_live.specs.Hearing.{IsHearing}
use Rattle.serve_live.specs.Listening.{ListenerState}
use Rattle.serve_hub.specs.Listening.{HearsMore}
use Rattle.serve_clients.specs.Client.{ClientState}
use Rattle.station_hub.proofs.giving.hear.Goals as goal

same_in : (one other : ListenerState) → Some one ≡ Some other → one ≡ other
same_in one other e = cc

pub returns-in-Ok-clause-heard : goal.returns-in-Ok-clause-heard
returns-in-Ok-clause-heard g c machine moment given listener shows is hearing =
    let same : c.in-Some.listener ≡ listener = same_in c.in-Some.listener listener (sym c.in-Some.is ∙ ap (λ (client : ClientState). client.listener) c.client.view_is ∙ is) in
    inl (
      c.hear.new.listener,
      subst (λ (one : ListenerState). (h : IsHearing moment machine.committed one given) → HearsMore moment machine.committed given h.rest (length c.args.buffer.now) c.in-Ok.count c.hear.new.buffer c.hear.new.listener) same (λ h. c.in-Ok.ensures.hears machine moment given shows h) hearing,
      ap (λ (client : ClientState). record client { listener = Some c.hear.new.listener }) c.client.view_is,
    )

pub returns-in-Ok-clause-machine : goal.returns-in-Ok-clause-machine
returns-in-Ok-clause-machine g c = c.hear.ensures.machine

pub returns-in-Err-clause-machine : goal.returns-in-Err-clause-machine
returns-in-Err-clause-machine g c = c.hear.ensures.machine

pub returns-in_default-clause-machine : goal.returns-in_default-clause-machine
returns-in_default-clause-machine g c machine shows = shows

pub returns-in-Ok-clause-disk : goal.returns-in-Ok-clause-disk
returns-in-Ok-clause-disk g c = inr c.hear.ensures.disk

pub returns-in-Err-clause-disk : goal.returns-in-Err-clause-disk
returns-in-Err-clause-disk g c = inr c.hear.ensures.disk

pub returns-in_default-clause-disk : goal.returns-in_default-clause-disk
returns-in_default-clause-disk g c = inl refl

pub returns-in-Err-clause-lost : goal.returns-in-Err-clause-lost
returns-in-Err-clause-lost g c machine moment given listener shows is hearing hears cuts =
    let same : c.in-Some.listener ≡ listener = same_in c.in-Some.listener listener (sym c.in-Some.is ∙ ap (λ (client : ClientState). client.listener) c.client.view_is ∙ is) in
    let heard = subst (λ (one : ListenerState). IsHearing moment machine.committed one given) (sym same) hearing in
    elim c.in-Err.ensures.faults [
      | inl none ↦ inl (c.hear.ensures.no_file.0 (c.in-Err.is ∙ ap Err none))
      | inr failed ↦ inr (c.hear.ensures.cause machine moment given shows heard (c.in-Err.is ∙ ap Err failed)).0
    ]
