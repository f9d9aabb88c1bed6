use Rattle.std.proofs.Common.{◌≡◌, Some, sym, ◌∙◌, ap, subst}
use Rattle.slab.specs.Slab.{SameValues, get, with_value}
use Rattle.serve_clients.specs.Client.{ClientState}
use Rattle.archive_fetch.specs.Hearing.{Ends}
use Rattle.archive_fetch.specs.declared.fetches.Content.TheVariants.{Heard}
use Rattle.archive_fetch.proofs.Placed.{placed, put_back, same}
use Rattle.archive_fetch.proofs.fetches.Fetches.file_ended.Goals as goal

pub returns-in-Some-get_mut-clause-ends : goal.returns-in-Some-get_mut-clause-ends
returns-in-Some-get_mut-clause-ends g c client id heard here session found =
    let slots = c.args.self.now.clients.slots in
    let contents = c.args.self.now.contents in
    let there : get slots c.args.key ≡ Some c.in-Some.client.now = sym c.in-Some.ensures.value in
    let is : c.in-Some.client.now ≡ client = same _ _ (sym there ∙ here) in
    let same_id : c.in-Some-session.id ≡ id =
    same _ _ (sym c.in-Some-session.is ∙ ap (λ (one : ClientState). one.session) (c.client.view_is ∙ is) ∙ session) in
    let at : get contents c.in-Some-session.id ≡ Some c.in-Some-get_mut.content.now = sym c.in-Some-get_mut.ensures.value in
    let content : c.in-Some-get_mut.content.now ≡ Heard heard = same _ _ (sym at ∙ ap (get contents) same_id ∙ found) in
    let (rest, becomes, left) = c.ended.ensures.ends heard (c.replace-taken.ensures.value ∙ content) in (
      c.ended.new.client,
      rest,
      subst (λ (one : ClientState). Ends g.D.Disk one heard c.ended.new.client rest) is becomes,
      placed slots c.args.key c.in-Some.client.now c.ended.new.client there,
      subst (λ key. get (with_value contents c.in-Some-session.id c.ended.result) key ≡ Some (Heard rest)) same_id
          (placed contents c.in-Some-session.id c.in-Some-get_mut.content.now c.ended.result at ∙ ap Some left),
    )

pub returns-in-Some-get_mut-clause-unheard : goal.returns-in-Some-get_mut-clause-unheard
returns-in-Some-get_mut-clause-unheard g c client here unheard =
    let slots = c.args.self.now.clients.slots in
    let contents = c.args.self.now.contents in
    let there : get slots c.args.key ≡ Some c.in-Some.client.now = sym c.in-Some.ensures.value in
    let is : c.in-Some.client.now ≡ client = same _ _ (sym there ∙ here) in
    let session : client.session ≡ Some c.in-Some-session.id =
    ap (λ (one : ClientState). one.session) (sym is ∙ sym c.client.view_is) ∙ c.in-Some-session.is in
    let at : get contents c.in-Some-session.id ≡ Some c.in-Some-get_mut.content.now = sym c.in-Some-get_mut.ensures.value in
    let (stays, left) = c.ended.ensures.other
    (λ heard taken. unheard c.in-Some-session.id heard session (at ∙ ap Some (sym c.replace-taken.ensures.value ∙ taken))) in (
      placed slots c.args.key c.in-Some.client.now c.ended.new.client there ∙ ap Some (stays ∙ is),
      subst (λ one. SameValues contents (with_value contents c.in-Some-session.id one)) (sym (left ∙ c.replace-taken.ensures.value))
          (put_back contents c.in-Some-session.id c.in-Some-get_mut.content.now at),
    )
