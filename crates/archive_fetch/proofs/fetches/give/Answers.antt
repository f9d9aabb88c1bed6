use Rattle.std.proofs.Common.{◌≡◌, Some, sym, ◌∙◌, ap, subst}
use Rattle.slab.specs.Slab.{get, with_value}
use Rattle.serve_clients.specs.Client.{ClientState}
use Rattle.archive_fetch.specs.declared.fetches.Content.TheVariants.{File, Heard}
use Rattle.archive_fetch.proofs.Placed.{placed, same}
use Rattle.archive_fetch.proofs.fetches.give.Goals as goal

pub returns-clause-pulls : goal.returns-clause-pulls
returns-clause-pulls g c id body none sending session found =
    let before = c.args.contents.now in
    let same_id : c.in-Some.id ≡ id = same _ _ (sym c.in-Some.is ∙ ap (λ (one : ClientState). one.session) c.client.view_is ∙ session) in
    let there : get before c.in-Some.id ≡ Some c.in-Some-get_mut.content.now = sym c.in-Some-get_mut.ensures.value in
    let content : c.in-Some-get_mut.content.now ≡ File body = same _ _ (sym there ∙ ap (get before) same_id ∙ found) in
    let (rest, pulled, left) = c.give_of-count.ensures.pulls body sending (c.replace-taken.ensures.value ∙ content) in (
      rest,
      pulled,
      subst (λ key. get (with_value before c.in-Some.id c.give_of-count.result.1) key ≡ Some (File rest)) same_id
          (placed before c.in-Some.id c.in-Some-get_mut.content.now c.give_of-count.result.1 there ∙ ap Some left),
    )

pub returns-clause-hears : goal.returns-clause-hears
returns-clause-hears g c id heard none hearing session found =
    let before = c.args.contents.now in
    let same_id : c.in-Some.id ≡ id = same _ _ (sym c.in-Some.is ∙ ap (λ (one : ClientState). one.session) c.client.view_is ∙ session) in
    let there : get before c.in-Some.id ≡ Some c.in-Some-get_mut.content.now = sym c.in-Some-get_mut.ensures.value in
    let content : c.in-Some-get_mut.content.now ≡ Heard heard = same _ _ (sym there ∙ ap (get before) same_id ∙ found) in
    let (rest, hears, left) = c.give_of-count.ensures.hears heard hearing (c.replace-taken.ensures.value ∙ content) in (
      rest,
      hears,
      subst (λ key. get (with_value before c.in-Some.id c.give_of-count.result.1) key ≡ Some (Heard rest)) same_id
          (placed before c.in-Some.id c.in-Some-get_mut.content.now c.give_of-count.result.1 there ∙ ap Some left),
    )
