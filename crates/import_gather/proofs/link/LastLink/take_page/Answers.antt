use Rattle.std.proofs.Common.{◌≡◌, false, sym, ◌∙◌}
use Rattle.std.proofs.lemmas.Bool.{false≢true}
use Rattle.ogg_page.specs.LogicalStream.{is_first}
use Rattle.import_gather.proofs.link.LastLink.take_page.Goals as goal

pub returns-then-not-is_first-clause-ok : goal.returns-then-not-is_first-clause-ok
returns-then-not-is_first-clause-ok c =
    let later : is_first c.args.page.now ≡ false = sym c.is_first.ensures ∙ c.if-not-is_first.true in
    let t = c.in_ok-follow.ensures.ok in
    (t.0, t.1, record { opens = λ f _. absurd (false≢true (sym later ∙ f)); joins = λ f _. absurd (false≢true (sym later ∙ f)); follows = λ _. t.2 })
