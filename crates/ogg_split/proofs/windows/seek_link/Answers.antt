use Rattle.std.proofs.Common.{◌≡◌, ◌+◌, ◌-◌, ◌∙◌, ap, subst, arith, drop, take, IsOk}
use Rattle.std.proofs.lemmas.Bool.{false≢true}
use Rattle.std.proofs.lemmas.Result.{on_ok_weaker}
use Rattle.ogg_page.specs.Window.{WindowState, left_of}
use Rattle.ogg_split.specs.Asked.{StandsIn}
use Rattle.ogg_split.proofs.Placed.{stands_in, some_link, own_bytes, link_is_there, nothing_missing}
use Rattle.ogg_split.proofs.windows.seek_link.Goals as goal

pub returns-clause-pages : goal.returns-clause-pages
returns-clause-pages g c links pages are e =
    let bytes = g.S.PageSource.bytes in
    let source = c.args.window.now.source in
    let link = c.in_ok-found.found in
    let (entry, there, is) = c.in_ok-found.ensures.ok in
    let stands : StandsIn (bytes source) link pages = rw is (stands_in links c.args.index.now (bytes source) c.args.link pages entry are e there) in
    let size : (link.start + link.length) - link.start ≡ link.length = omega arith in
    on_ok_weaker c.set_range.result
    (λ at. (
      stands.are_pages,
      ap (λ (w : WindowState _). (left_of bytes w).bytes) at ∙ ap (λ n. take n (drop link.start (bytes source))) size ∙ own_bytes (bytes source) link pages stands,
    ))
    c.set_range.ensures.ok

pub returns-clause-no_link : goal.returns-clause-no_link
returns-clause-no_link g c =
    let (entry, there, is) = c.in_ok-found.ensures.ok in
    link_is_there c.set_range.result c.args.index.now.entries c.args.link entry (nothing_missing c.set_range.result c.set_range.ensures.err) there

pub returns-clause-no_source : goal.returns-clause-no_source
returns-clause-no_source g c links sure are why =
    let (entry, there, is) = c.in_ok-found.ensures.ok in
    let (pages, stands) = some_link links c.args.index.now _ c.args.link entry are there in
    false≢true (subst (λ r. IsOk r) why (c.set_range.ensures.there pages sure (rw is stands)))
