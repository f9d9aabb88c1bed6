use Rattle.std.proofs.Common.{◌<◌, ◌^◌, ◌+◌, inl, inr, length, refl, ap, arith}
use Rattle.std.proofs.lemmas.Result.{on_ok_weaker, IfErr-weaker}
use Rattle.ogg_page.specs.Page.{page_size}
use Rattle.ogg_page.specs.PageLaws.{length-page_bytes}
use Rattle.link_chain.proofs.taker.take_short.Goals as goal

pub returns-then-size-saturating_sub-clause-left : goal.returns-then-size-saturating_sub-clause-left
returns-then-size-saturating_sub-clause-left g c =
    inr ((λ short. omega (arith, short, c.if-size-saturating_sub.true, c.saturating_sub.ensures, c.size.ensures, ap length c.whole.ensures.bytes, length-page_bytes c.args.page.now)), refl, refl)

pub take-requires : goal.take-requires
take-requires g c = omega (arith, c.if-size-saturating_sub.false, c.saturating_sub.ensures, c.size.ensures, ap length c.whole.ensures.bytes, length-page_bytes c.args.page.now)

pub returns-clause-short : goal.returns-clause-short
returns-clause-short g c =
    let short : g.T.TakesInTurn.size c.args.taken.now + page_size c.args.page.now < 2 ^ 63 = omega (arith, c.if-size-saturating_sub.false, c.saturating_sub.ensures, c.size.ensures, ap length c.whole.ensures.bytes, length-page_bytes c.args.page.now) in
    on_ok_weaker _ (λ taken. short) c.take.ensures.taken

pub returns-clause-left : goal.returns-clause-left
returns-clause-left g c =
    let short : g.T.TakesInTurn.size c.args.taken.now + page_size c.args.page.now < 2 ^ 63 = omega (arith, c.if-size-saturating_sub.false, c.saturating_sub.ensures, c.size.ensures, ap length c.whole.ensures.bytes, length-page_bytes c.args.page.now) in
    IfErr-weaker _ _ _ (λ fault refused. inl (short, refused)) c.take.ensures.refused
