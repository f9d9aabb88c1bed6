use Rattle.std.proofs.Common.{ℕ, List, subst, Err}
use Rattle.ogg_split.specs.Copying.{IsCopy}
use Rattle.std.proofs.lemmas.Bool.{false≢true}
use Rattle.ogg_split.proofs.Placed.{stands_in, some_link, link_is_there, nothing_missing}
use Rattle.ogg_split.proofs.copying.copy_link.Goals as goal

pub returns-in-Ok-bytes_of_link-clause-copied : goal.returns-in-Ok-bytes_of_link-clause-copied
returns-in-Ok-bytes_of_link-clause-copied g c links pages are e =
    let (entry, there, is) = c.in-Ok.ensures.ok in
    let stands = stands_in links c.args.index.now _ c.args.link pages entry are e there in
    subst (λ (l : List ℕ). IsCopy (g.W.Write.contents c.args.out.now) (g.W.Write.contents c.copy_bytes.new.out) l c.copy_bytes.result)
    (c.in-Ok-bytes_of_link.ensures.own pages (rw is stands)) c.copy_bytes.ensures.copied

pub returns-in-Ok-bytes_of_link-clause-no_link : goal.returns-in-Ok-bytes_of_link-clause-no_link
returns-in-Ok-bytes_of_link-clause-no_link g c =
    let (entry, there, is) = c.in-Ok.ensures.ok in
    link_is_there c.copy_bytes.result c.args.index.now.entries c.args.link entry c.copy_bytes.ensures.there there

pub returns-in-Err-bytes_of_link-clause-no_link : goal.returns-in-Err-bytes_of_link-clause-no_link
returns-in-Err-bytes_of_link-clause-no_link g c =
    let (entry, there, is) = c.in-Ok.ensures.ok in
    link_is_there (Err c.in-Err-bytes_of_link.fault) c.args.index.now.entries c.args.link entry (nothing_missing (Err c.in-Err-bytes_of_link.fault) c.in-Err-bytes_of_link.ensures.err) there

pub returns-in-Err-bytes_of_link-clause-no_source : goal.returns-in-Err-bytes_of_link-clause-no_source
returns-in-Err-bytes_of_link-clause-no_source g c links are why =
    let (entry, there, is) = c.in-Ok.ensures.ok in
    let (pages, stands) = some_link links c.args.index.now _ c.args.link entry are there in
    absurd (false≢true (c.in-Err-bytes_of_link.ensures.there pages (rw is stands)))
